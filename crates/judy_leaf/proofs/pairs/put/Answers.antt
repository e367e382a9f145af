use Rattle.std.proofs.Common.{◌≡◌, ◌+◌, ◌*◌, sym, subst, ◌∙◌, arith}
use Rattle.std.specs.List.{insert}
use Rattle.judy_leaf.specs.Leaves.{AreKeysFrom}
use Rattle.judy_leaf.specs.KeyChanges.{IsKeyChange}
use Rattle.judy_leaf.specs.PairChanges.{IsPairPut}
use Rattle.judy_leaf.proofs.PairSteps.{once, put_without}
use Rattle.judy_leaf.proofs.pairs.put.Goals as goal

pub put_with_value-requires-clause-keys : goal.put_with_value-requires-clause-keys
put_with_value-requires-clause-keys g c =
    let one = sym c.WORDS.ensures ∙ c.if-WORDS-eq1.true in
    subst (λ n. AreKeysFrom c.args.width c.args.count n c.args.block.now) ((λ t. one t * c.args.count) ∙ once c.args.count) c.requires.keys

pub returns-then-WORDS-eq1 : goal.returns-then-WORDS-eq1
returns-then-WORDS-eq1 g c =
    let one = sym c.WORDS.ensures ∙ c.if-WORDS-eq1.true in
    subst (λ n. IsPairPut n c.args.count c.args.at c.args.key c.args.value c.args.block.now c.put_with_value.new.block) (sym one) c.put_with_value.ensures

pub returns-else-WORDS-eq1 : goal.returns-else-WORDS-eq1
returns-else-WORDS-eq1 g c =
    let before = c.args.block.now in
    let is = c.WORDS.ensures in
    let most = c.requires.one in
    let apart = c.if-WORDS-eq1.false in
    let none : g.V.Words.WORDS ≡ 0 = omega arith in
    put_without g.V.Words.WORDS c.args.count c.args.at c.args.key c.args.value before c.insert.new.block none (c.requires.no_value none) c.requires.place
    (subst (λ w. AreKeysFrom w c.args.count (g.V.Words.WORDS * c.args.count) before) (sym c.requires.tag) c.requires.keys)
    (subst (λ w. IsKeyChange w 0 c.args.count (c.args.count + 1) (λ keys. insert keys c.args.at c.args.key) before c.insert.new.block) (sym c.requires.tag) c.insert.ensures)
