use Rattle.std.proofs.Common.{◌+◌, ◌-◌, ap, sym, ◌∙◌}
use Rattle.judy_block.specs.Contents.{Contents, without_gap}
use Rattle.judy_leaf.proofs.ValueSteps.{without_is}
use Rattle.judy_leaf.proofs.BitSteps.{no_word, take_with_value, take_without}
use Rattle.judy_leaf.proofs.bit_edit.take.Goals as goal

pub returns-then-WORDS-eq1 : goal.returns-then-WORDS-eq1
returns-then-WORDS-eq1 g c =
    let cut : Contents → Contents = λ block. record block { words = without_gap (4 + c.args.at) 1 block.words } in
    take_with_value g.V.Words.WORDS c.args.at c.args.key (c.tag.result - 1) c.args.block.now c.clear_bit.new.block c.close_gap.new.self c.requires.parts c.requires.there c.clear_bit.ensures
    (ap (λ n. n - 1) c.tag.ensures.tag)
    (sym c.WORDS.ensures ∙ c.if-WORDS-eq1.true) (c.close_gap.ensures ∙ ap cut c.set_tag.ensures ∙ (λ t.
    record c.clear_bit.new.block { tag = c.tag.result - 1; words = without_is c.clear_bit.new.block.words (4 + c.args.at) t }))

pub returns-else-WORDS-eq1 : goal.returns-else-WORDS-eq1
returns-else-WORDS-eq1 g c =
    let none = no_word c.WORDS.ensures c.requires.parts.one c.if-WORDS-eq1.false in
    take_without g.V.Words.WORDS c.args.at c.args.key (c.tag.result - 1) c.args.block.now c.clear_bit.new.block c.set_tag.new.self c.requires.parts c.requires.there c.clear_bit.ensures
    (ap (λ n. n - 1) c.tag.ensures.tag) none c.set_tag.ensures
