use Rattle.std.proofs.Common.{◌∙◌, sym, ap, Some, ◌<◌, arith}
use Rattle.judy_node.proofs.StepFacts.{place_of_all}
use Rattle.judy_node.proofs.child.BranchOf.place.Goals as goal

pub returns-then-len-eq256 : goal.returns-then-len-eq256
returns-then-len-eq256 g c =
    let branch = c.args.self.now in
    let below : c.args.byte < 256 = omega (arith, c.ranges.byte) in
    ap Some c.from.ensures
    ∙ sym (place_of_all g.V.Words.WORDS branch.width branch.skip branch.bytes branch.children.items branch.population c.args.byte c.requires
    (sym branch.children.ok.0 ∙ sym c.len.ensures ∙ c.if-len-eq256.true) below)
