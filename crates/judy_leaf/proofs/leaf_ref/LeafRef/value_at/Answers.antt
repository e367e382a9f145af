use Rattle.std.proofs.Common.{sym, ◌∙◌, arith}
use Rattle.judy_leaf.proofs.LeafLists.{read_value, read_no_value, value_inside}
use Rattle.judy_leaf.proofs.leaf_ref.LeafRef.value_at.Goals as goal

pub get-requires : goal.get-requires
get-requires g c =
    value_inside g.V.Words.WORDS c.self.inside.count c.self.inside.block.now c.self.invariant.0 c.args.self.now c.self.view_is c.args.at c.requires (sym c.WORDS.ensures ∙ c.if-WORDS-eq1.true)

pub returns-then-WORDS-eq1 : goal.returns-then-WORDS-eq1
returns-then-WORDS-eq1 g c =
    read_value g.V.Words.WORDS c.self.inside.count c.self.inside.block.now c.self.invariant.0 c.args.self.now c.self.view_is c.args.at c.get.result c.requires
    (sym c.WORDS.ensures ∙ c.if-WORDS-eq1.true) c.get.ensures

pub returns-else-WORDS-eq1 : goal.returns-else-WORDS-eq1
returns-else-WORDS-eq1 g c =
    read_no_value g.V.Words.WORDS c.self.inside.count c.self.inside.block.now c.self.invariant.0 c.args.self.now c.self.view_is c.args.at
    (let is = c.WORDS.ensures in let most = c.self.invariant.0.one in let apart = c.if-WORDS-eq1.false in omega arith)
