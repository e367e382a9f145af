use Rattle.std.proofs.Common.{◌<◌, length, sym, subst, arith}
use Rattle.judy_model.specs.Shapes.{immediate_limit}
use Rattle.judy_node.proofs.Leaves.{leaf_long}
use Rattle.judy_change.proofs.leaves.leaf_kind.Goals as goal

pub returns-clause-level : goal.returns-clause-level
returns-clause-level g c =
    let words = g.V.Words.WORDS in
    let made = c.into_parts-count.ensures in
    let long = leaf_long words c.into_parts-count.result.0 c.into_parts-count.result.1 made.parts in
    let more = subst (λ l. immediate_limit words l.width < length l.pairs) (sym made.list) c.requires in
    record { parts = made.parts; more = omega arith }
