use Rattle.std.proofs.Common.{◌≡◌, ℕ, suc, ◌+◌, ◌*◌, ◌^◌, ◌<◌, ◌≤◌, List, get_or, ap, ◌∙◌, arith}
use Rattle.std.proofs.Math.Nat.{pow-le-pow_right}
use Rattle.judy_records.specs.Texts.{spelled, first_word}
use Rattle.judy_records.proofs.Spelling.{spelled-more, spelled-below}
use Rattle.judy_records.proofs.words.fresh_word.Goals as goal

-- Before the eighth byte there is room for one more.
room : (word place : ℕ) (bytes : List ℕ) → ((k : ℕ) → get_or bytes k 0 < 256) → place < 8 → word ≡ spelled place bytes → word < 256 ^ 7
room word place bytes below before is =
    let few : place ≤ 7 = omega arith in
    let most : 256 ^ place ≤ 256 ^ 7 = pow-le-pow_right {n = 256} (omega arith) few in
    omega (arith, is, spelled-below place bytes below)

pub overflow_mul-word : goal.overflow_mul-word
overflow_mul-word c =
    let few = room c.loop-place.word c.loop-place.place c.args.bytes.now (λ at. omega (arith, c.type_inv.bytes at)) c.loop-place-test.true c.loop-place.invariant in
    omega arith

pub overflow_add-word : goal.overflow_add-word
overflow_add-word c =
    let few = room c.loop-place.word c.loop-place.place c.args.bytes.now (λ at. omega (arith, c.type_inv.bytes at)) c.loop-place-test.true c.loop-place.invariant in
    omega arith

pub loop-place-preserved : goal.loop-place-preserved
loop-place-preserved c =
    let next : suc c.loop-place.place ≡ c.loop-place.place + 1 = omega arith in
    let more = spelled-more c.loop-place.place c.args.bytes.now in
    let same = ap (λ width. spelled width c.args.bytes.now) next in
    let byte = c.byte_or_zero.ensures in
    omega (arith, more, same, byte)

pub returns : goal.returns
unfolding first_word
returns c =
    let all : c.loop-place.place ≡ 8 = omega arith in
    c.loop-place.invariant ∙ ap (λ width. spelled width c.args.bytes.now) all
