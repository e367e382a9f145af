use Rattle.std.proofs.Common.{◌≡◌, ◌+◌, ◌-◌, ◌*◌, min, ap, sym, ◌∙◌, arith}
use Rattle.judy_bits.specs.ByteSets.{prev_from}
use Rattle.judy_bits.proofs.MemberLemmas.{prev_in_word, prev_past_word, prev_in_none}
use Rattle.judy_bits.proofs.bits_ref.BitsRef.prev_from.Goals as goal

pub returns-in-Some : goal.returns-in-Some
returns-in-Some c =
    let word = c.loop-word.word - 1 in
    let upto : 64 * c.loop-word.word ≡ 64 * word + 64 = omega arith in
    let limit : c.min-limit.result ≡ min 64 (c.args.byte + 1 - 64 * word) = omega arith in
    sym (prev_in_word c.self.inside.words.now c.args.byte word c.in-Some.place c.ranges.byte.fits (omega arith) (λ at from end. c.loop-word.invariant at (omega arith) end)
    (rw limit at c.in-Some.ensures))
    ∙ ap (λ members. prev_from members c.args.byte) c.self.view_is

pub loop-word-preserved : goal.loop-word-preserved
loop-word-preserved c =
    let word = c.loop-word.word - 1 in
    let upto : 64 * c.loop-word.word ≡ 64 * word + 64 = omega arith in
    let limit : c.min-limit.result ≡ min 64 (c.args.byte + 1 - 64 * word) = omega arith in
    prev_past_word c.self.inside.words.now c.args.byte word (omega arith) (λ at from end. c.loop-word.invariant at (omega arith) end) (rw limit at c.in_default.ensures)

pub returns : goal.returns
returns c =
    let end : 64 * c.loop-word.word ≡ 0 = omega arith in
    sym (prev_in_none c.self.inside.words.now c.args.byte (λ at from upto. c.loop-word.invariant at (omega arith) upto))
    ∙ ap (λ members. prev_from members c.args.byte) c.self.view_is
