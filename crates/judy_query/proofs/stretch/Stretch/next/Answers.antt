use Rattle.std.proofs.Common.{◌+◌, ◌^◌, sym, ◌∙◌, arith}
use Rattle.judy_node.specs.Views.{view_pairs}
use Rattle.judy_query.specs.Parts.{width_of}
use Rattle.judy_query.proofs.RankFacts.{at_below}
use Rattle.judy_query.proofs.WalkFacts.{stretch_step}
use Rattle.judy_query.proofs.stretch.Stretch.next.Goals as goal

pub overflow_add-result : goal.overflow_add-result
overflow_add-result g c =
    let s = c.self.inside in
    let fits = c.self.invariant.fits in
    let below = at_below g.V.Words.WORDS 0 (256 ^ width_of s.view) (view_pairs s.view) s.at c.entry_on-key.result.0 c.entry_on-key.result.1 c.self.invariant.shown.map c.entry_on-key.ensures.entry in
    omega arith

pub returns : goal.returns
returns g c =
    let s = c.self.inside in
    sym c.self.view_is ∙ stretch_step s.base s.at (s.at + 1) (view_pairs s.view) c.entry_on-key.result.0 c.entry_on-key.result.1 (omega arith) c.entry_on-key.ensures.entry
