use Rattle.std.proofs.Common.{◌≡◌, ℕ, ◌+◌, ◌-◌, ◌<◌, ◌≤◌, ◌^◌, List, [], ◌∷◌, ◌++◌, length, take, drop, decimal, slice_set, sym, ap, ◌∙◌, arith, rules, append_assoc, length-append, length-drop}
use Rattle.std.proofs.lemmas.Fmt.{length-decimal-le}
use Rattle.std.proofs.lemmas.List.{length-set, length-take-le, drop-set, drop_at, take_at, take-take}
use borrow.Rule.Slice.PartMut.{mid_of, put_mid, Post-is}
use Rattle.judy_script.proofs.text.write_line.Goals as goal

short : (n : ℕ) → n < 2 ^ 64 → length (decimal n) ≤ 20
short n fits = search (rules, length-decimal-le 20)

-- what is written from the end on stands there in order, with other bytes behind it
line_written : (room head digits written : List ℕ) (at : ℕ) → length room ≡ 64 → length head ≤ at → at + length digits ≡ 31 → length written ≡ 64 →
    drop at written ≡ digits ++ drop 31 (slice_set room 31 10)
    → take (32 - (at - length head)) (take 32 (mid_of (at - length head) (64 - (at - length head)) (put_mid (at - length head) (at - (at - length head)) written head))) ≡ head ++ digits ++ 10 ∷ []
line_written room head digits written at long fits start same there =
    let from : ℕ = at - length head in
    let text : List ℕ = head ++ (digits ++ 10 ∷ []) in
    let tail : List ℕ = drop 32 room in
    let behind : drop at written ≡ (digits ++ 10 ∷ []) ++ tail =
    there ∙ ap (λ t. digits ++ t) (drop-set room 31 10 (omega arith)) ∙ sym (append_assoc digits (10 ∷ []) tail) in
    let whole : put_mid from (at - from) written head ≡ take from written ++ (text ++ tail) =
    ap (λ t. take from written ++ (head ++ t)) (Post-is from at written (omega arith) ∙ behind) ∙ ap (λ t. take from written ++ t) (sym (append_assoc head (digits ++ 10 ∷ []) tail)) in
    let last : drop from (put_mid from (at - from) written head) ≡ text ++ tail = ap (drop from) whole ∙ drop_at (take from written) (text ++ tail) from (length-take-le from written (omega arith)) in
    let size : length text ≡ 32 - from = omega (arith, length-append head (digits ++ 10 ∷ []), length-append digits (10 ∷ [])) in
    take-take (32 - from) 32 (take (64 - from) (drop from (put_mid from (at - from) written head))) (omega arith)
    ∙ take-take (32 - from) (64 - from) (drop from (put_mid from (at - from) written head)) (omega arith)
    ∙ ap (take (32 - from)) last ∙ take_at text tail (32 - from) size ∙ sym (append_assoc head digits (10 ∷ []))

pub write_digits-digits-requires : goal.write_digits-digits-requires
write_digits-digits-requires c =
    let few = short c.args.number c.ranges.number.fits in (omega (arith, few), omega (arith, length-set c.args.room.now 31 10, c.requires.room))

pub overflow_sub-from : goal.overflow_sub-from
overflow_sub-from c =
    let few = short c.args.number c.ranges.number.fits in omega (arith, few, c.write_digits-digits.ensures.start, c.requires.head)

pub copy_from_slice-requires : goal.copy_from_slice-requires
copy_from_slice-requires c =
    let few = short c.args.number c.ranges.number.fits in
    let at = c.write_digits-digits.result in
    let head = length c.args.head.now in
    let start = c.write_digits-digits.ensures.start in
    let written = c.write_digits-digits.new.buf in
    let same : length written ≡ 64 = omega (arith, c.write_digits-digits.auto.buf, length-set c.args.room.now 31 10, c.requires.room) in
    length-take-le (at - (at - head)) (drop (at - head) written) (omega (arith, length-drop (at - head) written, same, start)) ∙ omega (arith, few, start, c.requires.head)

pub returns-clause-text : goal.returns-clause-text
returns-clause-text c =
    let few = short c.args.number c.ranges.number.fits in
    let start = c.write_digits-digits.ensures.start in
    let at = c.write_digits-digits.result in
    let from : ℕ = at - length c.args.head.now in
    let written = c.write_digits-digits.new.buf in
    let same : length written ≡ 64 = omega (arith, c.write_digits-digits.auto.buf, length-set c.args.room.now 31 10, c.requires.room) in
    ap (take (32 - from)) c.in-Some.ensures.cases.same
    ∙ ap (λ head. take (32 - from) (take 32 (mid_of from (64 - from) (put_mid from (at - from) written head)))) c.copy_from_slice.ensures.after
    ∙ line_written c.args.room.now c.args.head.now (decimal c.args.number) written at c.requires.room (omega (arith, few, start, c.requires.head)) start same c.write_digits-digits.ensures.written

pub returns-clause-within : goal.returns-clause-within
returns-clause-within c = omega arith
