use Rattle.std.proofs.Common.{◌≡◌, ◌+◌, ◌<◌, length, ap, ◌∙◌, subst, arith}
use Rattle.judy_node.specs.Trees.{IsChild}
use Rattle.judy_node.specs.Branches.{tree_below}
use Rattle.judy_node.proofs.Shaped.{branch-child}
use Rattle.judy_change.specs.Removals.{width_of}
use Rattle.judy_change.proofs.InsertFacts.{apart_absent}
use Rattle.judy_change.proofs.replaced.past_branch.Goals as goal

pub split-requires-clause-child : goal.split-requires-clause-child
split-requires-clause-child g c =
    let b = c.args.branch.value in
    let long = c.len.ensures.count ∙ ap (λ b. length b.skip) c.deref-2.ensures in
    let low = ap (λ b. b.width) c.deref-3.ensures in
    let wide : width_of b ≡ c.len.result + (1 + c.deref-3.result.now.width) = omega arith in
    subst (λ w. IsChild g.V.Words.WORDS w (tree_below b)) wide (branch-child g.V.Words.WORDS b.width b.skip b.bytes b.children.items b.population c.requires.level)

pub split-requires-clause-absent : goal.split-requires-clause-absent
split-requires-clause-absent g c =
    apart_absent g.V.Words.WORDS c.args.pair.key c.args.branch.value c.requires.level c.requires.apart

pub split-requires-clause-room : goal.split-requires-clause-room
split-requires-clause-room g c =
    let room = c.requires.room (apart_absent g.V.Words.WORDS c.args.pair.key c.args.branch.value c.requires.level c.requires.apart) in
    subst (λ n. n < 18446744073709551615) c.requires.level.parts.counted room
