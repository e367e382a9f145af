use Rattle.std.proofs.Common.{sym, ◌∙◌}
use Rattle.judy_leaf.proofs.ImmLists.{imm_length, imm_list_is}
use Rattle.judy_leaf.proofs.imm.ImmOf.len.Goals as goal

pub returns-clause-count : goal.returns-clause-count
returns-clause-count g c =
    c.from.ensures ∙ sym (imm_length g.V.Words.WORDS c.self.inside.width c.self.inside.count c.self.inside.keys c.self.inside.value c.self.invariant c.args.self.now c.self.view_is)

pub returns-clause-list : goal.returns-clause-list
returns-clause-list g c = imm_list_is g.V.Words.WORDS c.self.inside.width c.self.inside.count c.self.inside.keys c.self.inside.value c.self.invariant c.args.self.now c.self.view_is
