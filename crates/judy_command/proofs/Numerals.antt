-- Decimal digits, read one by one.
use Rattle.std.proofs.Common.{◌≡◌, ℕ, ◌+◌, ◌*◌, ◌<◌, ◌≤◌, ◌^◌, Bool, true, false, cond, ◌&&◌, nat_lt, nat_le, List, length, take, get_or, Option, Some, None, refl, ap, sym, ◌∙◌, arith, rules}
use Rattle.std.specs.List.{list_all}
use Rattle.std.specs.Char.{is_ascii_digit, digit_value}
use Rattle.std.specs.Str.Parse.{digits_value}
use Rattle.std.proofs.lemmas.Int.Digits.{digits_value_more}
use Rattle.std.proofs.lemmas.Str.Parse.{digits_value-take-le}
use Rattle.std.proofs.lemmas.List.Folds.{list_all_at, list_all_more, list_all_kept}
use Rattle.std.proofs.Math.Seq.{take-length}
use Rattle.std.proofs.Math.Nat.{pow-succ', pow-le-pow_right}
use Rattle.std.proofs.lemmas.Bool.{lt-ltb, le-ltb, le-leb, ltb-true, ltb-false}
use Rattle.judy_model.specs.Tokens.{is_word_token, word_of}

-- a value under a test that gives none has failed the test, and one that it gives has passed it
pub failed : (test : Bool) (value : ℕ) (result : Option ℕ) → result ≡ cond test (Some value) None → result ≡ None → test ≡ false
failed true value result is none = search rules
failed false value result is none = refl

pub passed : (test : Bool) (value found : ℕ) (result : Option ℕ) → result ≡ cond test (Some value) None → result ≡ Some found → (test ≡ true) × (found ≡ value)
passed true value found result is some = search rules
passed false value found result is some = search rules

passed_both : (one two : Bool) → (one && two) ≡ true → (one ≡ true) × (two ≡ true)
passed_both true two h = (refl, h)
passed_both false two h = search rules

-- one more digit behind a number that is below 10^i, i at most 18
pub next_power : (number digit i : ℕ) → number < 10 ^ i → digit < 10 → number * 10 + digit < 10 ^ (i + 1)
next_power number digit i small least =
    let power : 10 ^ (i + 1) ≡ 10 * 10 ^ i = ap (λ n. 10 ^ n) (omega arith) ∙ pow-succ' 10 i in omega arith

pub fits_word : (number digit i : ℕ) → number < 10 ^ i → digit < 10 → i < 19 → number * 10 + digit < 2 ^ 64
fits_word number digit i small least few =
    let below = next_power number digit i small least in
    let most : 10 ^ (i + 1) ≤ 10 ^ 19 = pow-le-pow_right {n = 10} (omega arith) {i = i + 1} {j = 19} (omega arith) in
    let word : 10 ^ 19 ≤ 2 ^ 64 = omega arith in omega arith

-- a token that fails one of the tests of word tokens says no word
fails_third : (one two three four : Bool) → three ≡ false → (one && two && three && four) ≡ false
fails_third true true three four h = ap (λ b. b && four) h
fails_third true false three four h = refl
fails_third false two three four h = refl

fails_fourth : (one two three four : Bool) → four ≡ false → (one && two && three && four) ≡ false
fails_fourth true true true four h = h
fails_fourth true true false four h = refl
fails_fourth true false three four h = refl
fails_fourth false two three four h = refl

says_nothing : (token : List ℕ) → is_word_token token ≡ false → word_of token ≡ None
says_nothing token h = rw h refl

module _ (token : List ℕ) (i : ℕ) (here : i < length token) where
  -- the number of the digits so far with one more digit, as they are read
  abbrev pub longer : ℕ
  longer = digits_value 10 (take i token) * 10 + digit_value (get_or token i 0)

  pub longer_is : digits_value 10 (take (i + 1) token) ≡ longer
  longer_is = digits_value_more 10 token i here

  -- one more digit was read
  pub one_more : list_all is_ascii_digit (take i token) ≡ true → is_ascii_digit (get_or token i 0) ≡ true → list_all is_ascii_digit (take (i + 1) token) ≡ true
  one_more digits digit = list_all_more is_ascii_digit token i 0 here ∙ rw (digits, digit) refl

  -- a byte that is no digit, or one too many, leaves no word
  by_tests : (is_digit fits : Bool) → is_ascii_digit (get_or token i 0) ≡ is_digit → nat_lt longer (2 ^ 64) ≡ fits → (is_digit && fits) ≡ false → word_of token ≡ None
  by_tests false fits digit_is fits_is h =
      says_nothing token (fails_third (nat_lt 0 (length token)) (nat_le (length token) 20) (list_all is_ascii_digit token) (nat_lt (digits_value 10 token) (2 ^ 64))
      (list_all_at is_ascii_digit token i 0 here digit_is))
  by_tests true false digit_is fits_is h =
      let most : longer ≤ digits_value 10 token = rw (← longer_is) (digits_value-take-le 10 token (i + 1) (omega arith)) in
      let above : 2 ^ 64 ≤ longer = ltb-false longer (2 ^ 64) fits_is in
      says_nothing token (fails_fourth (nat_lt 0 (length token)) (nat_le (length token) 20) (list_all is_ascii_digit token) (nat_lt (digits_value 10 token) (2 ^ 64))
      (le-ltb (digits_value 10 token) (2 ^ 64) (omega arith)))
  by_tests true true digit_is fits_is h = absurd (search rules)

  pub refused : (is_ascii_digit (get_or token i 0) && nat_lt longer (2 ^ 64)) ≡ false → word_of token ≡ None
  refused h = by_tests (is_ascii_digit (get_or token i 0)) (nat_lt longer (2 ^ 64)) refl refl h

-- a token whose bytes are all digits, as many as word tokens have, of a number below 2^64 says that number
pub says_number : (token : List ℕ) (i : ℕ) → i ≡ length token → 0 < length token → length token ≤ 20 → list_all is_ascii_digit (take i token) ≡ true →
    digits_value 10 (take i token) < 2 ^ 64 → word_of token ≡ Some (digits_value 10 (take i token))
says_number token i end some few digits fits =
    let whole : take i token ≡ token = ap (λ n. take n token) end ∙ take-length token in
    let all : list_all is_ascii_digit token ≡ true = ap (list_all is_ascii_digit) (sym whole) ∙ digits in
    let below : digits_value 10 token < 2 ^ 64 = rw (← whole) fits in
    rw (whole, lt-ltb 0 (length token) some, le-leb (length token) 20 few, all, lt-ltb (digits_value 10 token) (2 ^ 64) below) refl

-- twenty digits of which the first nineteen were read
module _ (token : List ℕ) (twenty : length token ≡ 20) where
  pub inside : 19 < length token
  inside = omega arith

  pub no_word : list_all is_ascii_digit (take 19 token) ≡ false → word_of token ≡ None
  no_word not =
      let whole : take 20 token ≡ token = ap (λ n. take n token) (sym twenty) ∙ take-length token in
      let none : list_all is_ascii_digit token ≡ false = ap (list_all is_ascii_digit) (sym whole) ∙ list_all_kept is_ascii_digit token 19 not in
      says_nothing token (fails_third (nat_lt 0 (length token)) (nat_le (length token) 20) (list_all is_ascii_digit token) (nat_lt (digits_value 10 token) (2 ^ 64)) none)

  pub last_digit : list_all is_ascii_digit (take 19 token) ≡ true → (test : Bool) → (is_ascii_digit (get_or token 19 0) && nat_lt (longer token 19 inside) (2 ^ 64)) ≡ test
      → cond test (Some (longer token 19 inside)) None ≡ word_of token
  last_digit digits false is = sym (refused token 19 inside is)
  last_digit digits true is =
      let both = passed_both (is_ascii_digit (get_or token 19 0)) (nat_lt (longer token 19 inside) (2 ^ 64)) is in
      let fits : digits_value 10 (take 20 token) < 2 ^ 64 = rw (longer_is token 19 inside) (ltb-true (longer token 19 inside) (2 ^ 64) both.1) in
      sym (says_number token 20 (sym twenty) (omega arith) (omega arith) (one_more token 19 inside digits both.0) fits ∙ ap Some (longer_is token 19 inside))
