-- Words as they are read and printed.
use Rattle.std.proofs.Common.{◌≡◌, ℕ, ◌+◌, ◌<◌, ◌≤◌, ◌%◌, ◌^◌, true, false, cond, nat_lt, nat_le, List, [], ◌∷◌, length, Some, None, refl, arith}
use Rattle.std.specs.Prelude.{decimal, IfSome}
use Rattle.std.specs.List.{list_all}
use Rattle.std.specs.Char.{is_ascii_digit}
use Rattle.std.specs.Str.Parse.{digits_value}
use Rattle.std.proofs.lemmas.Fmt.{decimal_by_steps, decimal_is_IsNumeral, length-decimal-le}
use Rattle.std.proofs.lemmas.Bool.{ltb-true, lt-ltb, le-leb}
use Rattle.std.proofs.lemmas.List.Folds.{list_all-append}
use Rattle.judy_model.specs.Keys.{IsWord}
use Rattle.judy_model.specs.Tokens.{word_of, is_word_token}
use Rattle.judy_model.proofs.lemmas.maps.Tests.{second_true}

a_digit : (n : ℕ) → n < 10 → is_ascii_digit (48 + n) ≡ true
a_digit n h = rw (le-leb 48 (48 + n) (omega arith)) (le-leb (48 + n) 57 (omega arith))

all_digits : (n : ℕ) → n < 2 ^ 64 → list_all is_ascii_digit (decimal n) ≡ true
all_digits =
    decimal_by_steps (λ _ digits. list_all is_ascii_digit digits ≡ true)
    (λ n h. rw (a_digit n h) refl)
    (λ n digits h all. rw (list_all-append is_ascii_digit digits ((48 + n % 10) ∷ []), all, a_digit (n % 10) (omega arith)) refl)

pub word_of-decimal : (word : ℕ) → IsWord word → word_of (decimal word) ≡ Some word
word_of-decimal word h =
    let numeral = decimal_is_IsNumeral word h in
    let long : length (decimal word) ≤ 20 = length-decimal-le 20 word (omega arith) (omega arith) h in
    let some : nat_lt 0 (length (decimal word)) ≡ true = lt-ltb _ _ numeral.0.0 in
    let short : nat_le (length (decimal word)) 20 ≡ true = le-leb _ _ long in
    let small : nat_lt word (2 ^ 64) ≡ true = lt-ltb _ _ h in
    rw (numeral.1, some, short, all_digits word h, small) refl

pub word_of-IsWord : (token : List ℕ) → IfSome (word_of token) IsWord
word_of-IsWord token = elim (is_word_token token) as (λ b. is_word_token token ≡ b → IfSome (cond b (Some (digits_value 10 token)) None) IsWord) [
  | true ↦ λ h. ltb-true _ _ (second_true _ _ h)
  | false ↦ λ _. tt
] refl
