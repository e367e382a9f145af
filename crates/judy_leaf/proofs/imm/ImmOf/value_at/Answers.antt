use Rattle.std.proofs.Common.{sym, ◌∙◌, arith}
use Rattle.judy_leaf.proofs.ImmLists.{imm_value, imm_no_value}
use Rattle.judy_leaf.proofs.imm.ImmOf.value_at.Goals as goal

pub returns-then-WORDS-eq1 : goal.returns-then-WORDS-eq1
returns-then-WORDS-eq1 g c =
    imm_value g.V.Words.WORDS c.self.inside.width c.self.inside.count c.self.inside.keys c.self.inside.value c.self.invariant c.args.self.now c.self.view_is c.args.at c.requires
    (sym c.WORDS.ensures ∙ c.if-WORDS-eq1.true)

pub returns-else-WORDS-eq1 : goal.returns-else-WORDS-eq1
returns-else-WORDS-eq1 g c =
    imm_no_value g.V.Words.WORDS c.self.inside.width c.self.inside.count c.self.inside.keys c.self.inside.value c.self.invariant c.args.self.now c.self.view_is c.args.at
    (let is = c.WORDS.ensures in let most = c.self.invariant.one in let apart = c.if-WORDS-eq1.false in omega arith)
