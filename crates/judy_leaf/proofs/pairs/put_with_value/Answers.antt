use Rattle.std.proofs.Common.{◌+◌, sym, subst, refl}
use Rattle.std.specs.List.{insert}
use Rattle.judy_leaf.specs.Leaves.{AreKeysFrom}
use Rattle.judy_leaf.specs.KeyChanges.{IsKeyChange}
use Rattle.judy_leaf.specs.PairChanges.{IsPairPut}
use Rattle.judy_leaf.proofs.PairSteps.{once, put_words, put_with_value}
use Rattle.judy_leaf.proofs.pairs.put_with_value.Goals as goal

pub returns-then-width-gt4 : goal.returns-then-width-gt4
returns-then-width-gt4 c =
    subst (IsPairPut 1 c.args.count c.args.at c.args.key c.args.value c.args.block.now) (sym c.insert_two.ensures)
    (put_words c.args.width c.args.count c.args.at c.args.key c.args.value c.args.block.now c.if-width-gt4.true c.requires.tag c.requires.place c.requires.few c.requires.below c.requires.keys)

pub returns-else-width-gt4 : goal.returns-else-width-gt4
returns-else-width-gt4 c =
    let before = c.args.block.now in
    put_with_value 1 c.args.count c.args.at c.args.key c.args.value before c.insert.new.block c.insert-else-width-gt4.new.block refl c.requires.place
    (subst (λ n. AreKeysFrom before.tag c.args.count n before) (sym (once c.args.count)) (subst (λ w. AreKeysFrom w c.args.count c.args.count before) (sym c.requires.tag) c.requires.keys))
    c.insert.ensures
    (subst (λ w. IsKeyChange w (c.args.count + 1) c.args.count (c.args.count + 1) (λ keys. insert keys c.args.at c.args.key) c.insert.new.block c.insert-else-width-gt4.new.block)
    (sym c.requires.tag) c.insert-else-width-gt4.ensures)
