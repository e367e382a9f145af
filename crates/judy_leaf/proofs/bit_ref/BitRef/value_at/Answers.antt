use Rattle.std.proofs.Common.{sym, ◌∙◌, arith}
use Rattle.judy_leaf.proofs.BitLists.{bit_most, bit_value, bit_no_value, bit_value_inside}
use Rattle.judy_leaf.proofs.bit_ref.BitRef.value_at.Goals as goal

pub overflow_add-at : goal.overflow_add-at
overflow_add-at g c = let most = bit_most g.V.Words.WORDS c.self.inside.block.now c.self.invariant c.args.self.now c.self.view_is in let inside = c.requires in omega arith

pub get-requires : goal.get-requires
get-requires g c = bit_value_inside g.V.Words.WORDS c.self.inside.block.now c.self.invariant c.args.self.now c.self.view_is c.args.at c.requires (sym c.WORDS.ensures ∙ c.if-WORDS-eq1.true)

pub returns-then-WORDS-eq1 : goal.returns-then-WORDS-eq1
returns-then-WORDS-eq1 g c =
    bit_value g.V.Words.WORDS c.self.inside.block.now c.self.invariant c.args.self.now c.self.view_is c.args.at c.get.result c.requires (sym c.WORDS.ensures ∙ c.if-WORDS-eq1.true) c.get.ensures

pub returns-else-WORDS-eq1 : goal.returns-else-WORDS-eq1
returns-else-WORDS-eq1 g c =
    bit_no_value g.V.Words.WORDS c.self.inside.block.now c.self.invariant c.args.self.now c.self.view_is c.args.at
    (let is = c.WORDS.ensures in let most = c.self.invariant.one in let apart = c.if-WORDS-eq1.false in omega arith)
