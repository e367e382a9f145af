use Rattle.std.proofs.Common.{◌≢◌, ℕ, ◌<◌, ◌≤◌, List, [], ◌∷◌, length, codes, refl, arith}
use Rattle.std.specs.List.{AllByRecursion}
use Rattle.std.proofs.lemmas.List.Elements.{All-from_recursion, recursion_from_All}
use Rattle.judy_model.specs.KeyLengths.{IsBytesKeyTo, IsStringKeyTo}
use Rattle.judy_laws.proofs.examples.key_lengths.three_bytes_are_a_key_to_three.Goals as goal

bytes_key : (longest : ℕ) (key : List ℕ) → AllByRecursion (λ byte. byte < 256) key → length key ≤ longest → IsBytesKeyTo longest key
bytes_key longest key bytes fits = record { is_byte_string = All-from_recursion (λ byte. byte < 256) key bytes; within_limit = fits }

string_key : (longest : ℕ) (key : List ℕ) → AllByRecursion (λ byte. byte < 256) key → AllByRecursion (λ byte. byte ≢ 0) key → length key ≤ longest → IsStringKeyTo longest key
string_key longest key bytes no_zero fits = record { is_bytes_key = bytes_key longest key bytes fits; without_zero = All-from_recursion (λ byte. byte ≢ 0) key no_zero }

too_long : (longest : ℕ) (key : List ℕ) → longest < length key → IsStringKeyTo longest key → ⊥
too_long longest key longer is = let short = is.is_bytes_key.within_limit in omega (arith, longer, short)

pub returns : goal.returns
returns c = record {
  three = string_key 3 (codes "abc") (omega arith, (omega arith, (omega arith, tt))) (λ e. omega (arith, e), (λ e. omega (arith, e), (λ e. omega (arith, e), tt))) (omega arith);
  four = too_long 3 (codes "abcd") (omega arith);
  four_to_four = string_key 4 (codes "abcd")
      (omega arith, (omega arith, (omega arith, (omega arith, tt))))
      (λ e. omega (arith, e), (λ e. omega (arith, e), (λ e. omega (arith, e), (λ e. omega (arith, e), tt)))) (omega arith);
  empty = string_key 0 [] tt tt (omega arith);
  one_to_none = too_long 0 (codes "a") (omega arith);
  zero_byte = λ is. (recursion_from_All (λ byte. byte ≢ 0) (97 ∷ 0 ∷ []) is.without_zero).1.0 refl;
  zero_in_bytes = bytes_key 3 (97 ∷ 0 ∷ []) (omega arith, (omega arith, tt)) (omega arith);
  greatest_byte = string_key 1 (255 ∷ []) (omega arith, tt) (λ e. omega (arith, e), tt) (omega arith);
  no_byte = λ is. let small = (recursion_from_All (λ byte. byte < 256) (256 ∷ []) is.is_bytes_key.is_byte_string).0 in omega (arith, small);
}
