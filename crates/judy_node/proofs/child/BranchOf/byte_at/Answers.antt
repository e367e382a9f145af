use Rattle.std.proofs.Common.{sym, ◌∙◌}
use Rattle.judy_node.proofs.StepFacts.{byte_of_all, byte_there}
use Rattle.judy_node.proofs.child.BranchOf.byte_at.Goals as goal

pub unreachable-requires : goal.unreachable-requires
unreachable-requires g c =
    let b = c.args.self.now in
    c.in_default.not-Some _ (c.nth.ensures ∙ byte_there g.V.Words.WORDS b.width b.skip b.bytes b.children.items b.population c.args.place c.requires.branch c.requires.place)

pub returns-then-len-eq256 : goal.returns-then-len-eq256
returns-then-len-eq256 g c =
    let b = c.args.self.now in
    byte_of_all g.V.Words.WORDS b.width b.skip b.bytes b.children.items b.population c.args.place c.requires.branch (sym b.children.ok.0 ∙ sym c.len.ensures ∙ c.if-len-eq256.true) c.requires.place
