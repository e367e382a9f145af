use Rattle.std.proofs.Common.{◌/◌, refl, ◌∙◌, arith}
use Rattle.judy_leaf.proofs.ImmLists.{full_without}
use Rattle.judy_leaf.proofs.imm.ImmOf.is_full.Goals as goal

pub returns-else-WORDS-eq1 : goal.returns-else-WORDS-eq1
returns-else-WORDS-eq1 g c =
    let own = c.self.inside in
    c.is_full.ensures
    ∙ full_without g.V.Words.WORDS own.width own.count own.keys own.value c.self.invariant c.args.self.now c.self.view_is (8 / own.width)
    (let is = c.WORDS.ensures in let most = c.self.invariant.one in let apart = c.if-WORDS-eq1.false in omega arith) refl
