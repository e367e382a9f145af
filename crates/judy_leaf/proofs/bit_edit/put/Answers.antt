use Rattle.std.proofs.Common.{◌+◌, ◌≤◌, length, ap, sym, subst, ◌∙◌}
use Rattle.std.specs.List.{insert}
use Rattle.judy_block.specs.Contents.{Contents}
use Rattle.judy_leaf.proofs.BitSteps.{no_word, value_place, put_with_value, put_without}
use Rattle.judy_leaf.proofs.bit_edit.put.Goals as goal

pub insert_value-requires-clause-few : goal.insert_value-requires-clause-few
insert_value-requires-clause-few g c =
    (value_place g.V.Words.WORDS c.args.at c.args.key c.args.value (c.tag.result + 1) c.args.block.now c.set_bit.new.block c.set_tag.new.self c.requires.parts
    c.ranges.key.fits c.requires.absent c.requires.place c.set_bit.ensures (ap (λ n. n + 1) c.tag.ensures.tag) (sym c.WORDS.ensures ∙ c.if-WORDS-eq1.true)).0

pub insert_value-requires-clause-place : goal.insert_value-requires-clause-place
insert_value-requires-clause-place g c =
    subst (λ b. 4 + c.args.at ≤ length b.words) (sym c.set_tag.ensures)
    (value_place g.V.Words.WORDS c.args.at c.args.key c.args.value (c.tag.result + 1) c.args.block.now c.set_bit.new.block c.set_tag.new.self c.requires.parts
    c.ranges.key.fits c.requires.absent c.requires.place c.set_bit.ensures (ap (λ n. n + 1) c.tag.ensures.tag) (sym c.WORDS.ensures ∙ c.if-WORDS-eq1.true)).1

pub returns-then-WORDS-eq1 : goal.returns-then-WORDS-eq1
returns-then-WORDS-eq1 g c =
    let written : Contents → Contents = λ block. record block { words = insert block.words (4 + c.args.at) c.args.value } in
    put_with_value g.V.Words.WORDS c.args.at c.args.key c.args.value (c.tag.result + 1) c.args.block.now c.set_bit.new.block c.insert_value.new.block c.requires.parts
    c.ranges.key.fits c.requires.absent c.requires.place c.set_bit.ensures (ap (λ n. n + 1) c.tag.ensures.tag)
    (sym c.WORDS.ensures ∙ c.if-WORDS-eq1.true) (c.insert_value.ensures ∙ ap written c.set_tag.ensures)

pub returns-else-WORDS-eq1 : goal.returns-else-WORDS-eq1
returns-else-WORDS-eq1 g c =
    let none = no_word c.WORDS.ensures c.requires.parts.one c.if-WORDS-eq1.false in
    put_without g.V.Words.WORDS c.args.at c.args.key c.args.value (c.tag.result + 1) c.args.block.now c.set_bit.new.block c.set_tag.new.self c.requires.parts
    c.ranges.key.fits c.requires.absent c.requires.place c.set_bit.ensures (ap (λ n. n + 1) c.tag.ensures.tag)
    none (c.requires.no_value none) c.set_tag.ensures
