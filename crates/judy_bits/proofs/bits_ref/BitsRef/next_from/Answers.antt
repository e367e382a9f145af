use Rattle.std.proofs.Common.{◌≡◌, ◌-◌, ◌*◌, ◌/◌, ◌%◌, ◌≤◌, slice_index, ap, sym, subst, ◌∙◌, arith}
use Rattle.judy_bits.specs.ByteSets.{next_from}
use Rattle.judy_bits.specs.BitWords.{IsLowestFrom}
use Rattle.judy_bits.proofs.MemberLemmas.{next_in_word, next_in_none}
use Rattle.judy_bits.proofs.bits_ref.BitsRef.next_from.Goals as goal

pub returns-in-Some : goal.returns-in-Some
returns-in-Some c =
    let words = c.self.inside.words.now in
    let byte = c.args.byte in
    let own : byte % 64 ≡ byte - 64 * (byte / 64) = omega arith in
    sym (next_in_word words byte (byte / 64) c.in-Some.place (omega arith) (λ at from before. let never : ⊥ = omega arith in absurd never)
    (subst (λ from. IsLowestFrom (slice_index words (byte / 64)) from c.in-Some.place) own c.in-Some.ensures))
    ∙ ap (λ members. next_from members byte) c.self.view_is

pub returns-in-Some-lowest_from : goal.returns-in-Some-lowest_from
returns-in-Some-lowest_from c =
    let words = c.self.inside.words.now in
    let low = c.loop-word.auto.word in
    let whole : 0 ≡ c.args.byte - 64 * c.loop-word.word = omega arith in
    sym (next_in_word words c.args.byte c.loop-word.word c.in-Some-lowest_from.place c.loop-word-test.true c.loop-word.invariant
    (subst (λ from. IsLowestFrom (slice_index words c.loop-word.word) from c.in-Some-lowest_from.place) whole c.in-Some-lowest_from.ensures))
    ∙ ap (λ members. next_from members c.args.byte) c.self.view_is

pub returns : goal.returns
returns c =
    let past = c.loop-word-test.false in
    let end : 256 ≤ 64 * c.loop-word.word = omega arith in
    sym (next_in_none c.self.inside.words.now c.args.byte (λ at from before. c.loop-word.invariant at from (omega arith)))
    ∙ ap (λ members. next_from members c.args.byte) c.self.view_is
