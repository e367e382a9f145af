-- Decimal digits, read behind those of a number, one by one and some at once.
use Rattle.std.proofs.Common.{◌≡◌, ℕ, zero, suc, ◌+◌, ◌-◌, ◌*◌, ◌<◌, ◌≤◌, ◌^◌, true, false, ◌&&◌, List, [], ◌∷◌, ◌++◌, length, take, drop, get_or, leb, None, refl, sym, ap, subst, ◌∙◌, arith, add-one}
use Rattle.std.specs.List.{list_all}
use Rattle.std.specs.Char.{is_ascii_digit, digit_value}
use Rattle.std.specs.Str.Parse.{digits_value_after}
use Rattle.std.proofs.lemmas.Bool.{and_parts, leb-true, le-ltb, lt-ltb}
use Rattle.std.proofs.lemmas.List.{take-append-drop, length-take-le, length-drop}
use Rattle.std.proofs.Math.Nat.{pow-le-pow_right}
use Rattle.std.proofs.lemmas.List.Folds.{list_all-append}
use Rattle.judy_command.specs.Digits.{number_after}
use Rattle.judy_command.proofs.Numerals.{next_power}

-- Digits in a row are read one part after the other.
after-append : (number : ℕ) (front back : List ℕ) → digits_value_after 10 number (front ++ back) ≡ digits_value_after 10 (digits_value_after 10 number front) back
after-append number [] back = refl
after-append number (byte ∷ front) back = after-append (number * 10 + digit_value byte) front back

-- One digit more.
pub after_more : (number : ℕ) (bytes : List ℕ) (i : ℕ) → i < length bytes → digits_value_after 10 number (take (i + 1) bytes) ≡
    digits_value_after 10 number (take i bytes) * 10 + digit_value (get_or bytes i 0)
after_more number [] i here = absurd (omega arith)
after_more number (byte ∷ bytes) zero here = refl
after_more number (byte ∷ bytes) (suc i) here =
    ap (λ n. digits_value_after 10 number (take n (byte ∷ bytes))) (add-one (suc i)) ∙ ap (λ n. digits_value_after 10 (number * 10 + digit_value byte) (take n bytes)) (sym (add-one i)) ∙
    after_more (number * 10 + digit_value byte) bytes i (omega arith)

-- Digits behind a number below a power of ten.
pub digit_is_small : (byte : ℕ) → is_ascii_digit byte ≡ true → digit_value byte < 10
digit_is_small byte is =
    let both = and_parts (leb 48 byte) (leb byte 57) is in
    let least = leb-true 48 byte both.0 in
    let most = leb-true byte 57 both.1 in
    rw (le-ltb byte 48 least, lt-ltb byte 58 (omega arith)) (omega arith)

pub after_small : (number places : ℕ) (bytes : List ℕ) → number < 10 ^ places → list_all is_ascii_digit bytes ≡ true → digits_value_after 10 number bytes < 10 ^ (places + length bytes)
after_small number places [] small digits = subst (λ n. number < 10 ^ n) (omega arith) small
after_small number places (byte ∷ bytes) small digits =
    let both = and_parts (is_ascii_digit byte) (list_all is_ascii_digit bytes) digits in
    subst (λ n. digits_value_after 10 (number * 10 + digit_value byte) bytes < 10 ^ n) (omega arith)
    (after_small (number * 10 + digit_value byte) (places + 1) bytes (next_power number (digit_value byte) places small (digit_is_small byte both.0)) both.1)

-- The first of the digits were read, or one of them is none.
module _ (number : ℕ) (bytes : List ℕ) (count : ℕ) where
  in_parts : list_all is_ascii_digit bytes ≡ (list_all is_ascii_digit (take count bytes) && list_all is_ascii_digit (drop count bytes))
  in_parts = ap (list_all is_ascii_digit) (sym (take-append-drop count bytes)) ∙ list_all-append is_ascii_digit (take count bytes) (drop count bytes)

  pub parts_read : list_all is_ascii_digit (take count bytes) ≡ true → number_after number bytes ≡ number_after (digits_value_after 10 number (take count bytes)) (drop count bytes)
  parts_read digits =
      rw (in_parts, digits, ← after-append number (take count bytes) (drop count bytes), take-append-drop count bytes) refl

  pub part_refused : list_all is_ascii_digit (take count bytes) ≡ false → number_after number bytes ≡ None
  part_refused not = rw (in_parts, not) refl

-- Between which bytes a digit stands, and its value.
pub least_digit : (byte : ℕ) → is_ascii_digit byte ≡ true → 48 ≤ byte
least_digit byte is = leb-true 48 byte (and_parts (leb 48 byte) (leb byte 57) is).0

pub most_digit : (byte : ℕ) → is_ascii_digit byte ≡ true → byte ≤ 57
most_digit byte is = leb-true byte 57 (and_parts (leb 48 byte) (leb byte 57) is).1

pub digit_value_is : (byte : ℕ) → is_ascii_digit byte ≡ true → digit_value byte ≡ byte - 48
digit_value_is byte is =
    let least = least_digit byte is in
    let most = most_digit byte is in
    rw (le-ltb byte 48 least, lt-ltb byte 58 (omega arith)) refl

-- The first of at most 19 digits were read at once, or one of them is none.
module _ (bytes front rest : List ℕ) (count : ℕ) (front-is : front ≡ take count bytes) (rest-is : rest ≡ drop count bytes) where
  pub front_small : count ≤ length bytes → length bytes ≤ 19 → list_all is_ascii_digit front ≡ true → digits_value_after 10 0 front < 10 ^ (19 - length rest)
  front_small inside few digits =
      let long : length front ≡ count = ap length front-is ∙ length-take-le count bytes inside in
      let short : length rest ≡ length bytes - count = ap length rest-is ∙ length-drop count bytes in
      let small = after_small 0 0 front (omega arith) digits in
      let most : 10 ^ (0 + length front) ≤ 10 ^ (19 - length rest) = pow-le-pow_right {n = 10} (omega arith) {i = 0 + length front} {j = 19 - length rest} (omega arith) in
      omega arith

  pub front_read : list_all is_ascii_digit front ≡ true → number_after (digits_value_after 10 0 front) rest ≡ number_after 0 bytes
  front_read digits =
      (λ t. number_after (digits_value_after 10 0 (front-is t)) (rest-is t)) ∙ sym (parts_read 0 bytes count (ap (list_all is_ascii_digit) (sym front-is) ∙ digits))

  pub front_refused : list_all is_ascii_digit front ≡ false → None ≡ number_after 0 bytes
  front_refused not = sym (part_refused 0 bytes count (ap (list_all is_ascii_digit) (sym front-is) ∙ not))
