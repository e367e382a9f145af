use Rattle.std.proofs.Common.{◌+◌, ◌++◌, length, ap, sym, ◌∙◌, arith}
use Rattle.judy_leaf.specs.KeyLists.{values_of}
use Rattle.judy_leaf.proofs.BitSteps.{no_word}
use Rattle.judy_leaf.proofs.BitsPut.{few_bytes, bits_front, bits_and_values, bits_alone}
use Rattle.judy_leaf.proofs.bit_edit.put_all.Goals as goal

pub overflow_cast-pairs : goal.overflow_cast-pairs
overflow_cast-pairs g c = let few = few_bytes c.args.pairs.now c.requires.list in omega arith

pub overflow_add-tag : goal.overflow_add-tag
overflow_add-tag g c =
    let few = few_bytes c.args.pairs.now c.requires.list in
    let most = c.requires.parts.most in
    let same = c.set_bits.ensures.tag in
    let tagged = c.tag.ensures.tag in
    omega arith

pub append-requires-clause-front : goal.append-requires-clause-front
append-requires-clause-front g c =
    bits_front g.V.Words.WORDS c.args.pairs.now c.args.block.now c.set_bits.new.block c.set_tag.new.self c.requires.parts c.requires.empty c.set_bits.ensures (ap (λ b. b.words) c.set_tag.ensures)

pub append-requires-clause-few : goal.append-requires-clause-few
append-requires-clause-few g c = few_bytes c.args.pairs.now c.requires.list

pub returns-then-WORDS-eq1 : goal.returns-then-WORDS-eq1
returns-then-WORDS-eq1 g c =
    let done = bits_and_values g.V.Words.WORDS c.args.pairs.now c.args.block.now c.set_bits.new.block c.append.new.block c.requires.parts c.requires.empty
    (few_bytes c.args.pairs.now c.requires.list) c.set_bits.ensures
    (ap (λ b. b.tag) c.append.ensures ∙ ap (λ b. b.tag) c.set_tag.ensures ∙ ap (λ n. n + length c.args.pairs.now) c.tag.ensures.tag) (sym c.WORDS.ensures ∙ c.if-WORDS-eq1.true)
    (ap (λ b. b.words) c.append.ensures ∙ ap (λ b. b.words ++ values_of c.args.pairs.now) c.set_tag.ensures) in
    record { parts = done.0; list = done.1 }

pub returns-else-WORDS-eq1 : goal.returns-else-WORDS-eq1
returns-else-WORDS-eq1 g c =
    let none = no_word c.WORDS.ensures c.requires.parts.one c.if-WORDS-eq1.false in
    let done = bits_alone g.V.Words.WORDS c.args.pairs.now c.args.block.now c.set_bits.new.block c.set_tag.new.self c.requires.parts c.requires.empty
    (few_bytes c.args.pairs.now c.requires.list) c.set_bits.ensures
    (ap (λ b. b.tag) c.set_tag.ensures ∙ ap (λ n. n + length c.args.pairs.now) c.tag.ensures.tag) none (c.requires.no_values none) (ap (λ b. b.words) c.set_tag.ensures) in
    record { parts = done.0; list = done.1 }
