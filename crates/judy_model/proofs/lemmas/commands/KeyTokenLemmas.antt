-- Byte strings as key tokens say them and as they are printed.
use Rattle.std.proofs.Common.{◌≡◌, ◌≢◌, ℕ, ◌+◌, ◌*◌, ◌/◌, ◌%◌, ◌<◌, Bool, true, false, cond, not, ◌==◌, nat_lt, nat_le, List, [], ◌∷◌, length, Option, Some, None, refl, sym, ap}
use Rattle.std.proofs.Common.{◌∙◌, arith, All, IfSome}
use Rattle.std.specs.Prelude.{filter}
use Rattle.std.specs.List.{list_all}
use Rattle.std.proofs.lemmas.Bool.{and_parts, lt-ltb, le-leb, leb-true}
use Rattle.std.proofs.lemmas.List.Elements.{All-nil, All-cons, All-head, All-tail}
use Rattle.std.proofs.lemmas.List.Splits.{slice_split_none}
use Rattle.judy_model.specs.Keys.{IsByteString, IsBytesKey, IsStringKey}
use Rattle.judy_model.specs.Tokens.{tokens_of}
use Rattle.judy_model.specs.KeyTokens.{is_shown, digit_value, with_byte, bytes_of_digits, key_of, is_bytes_key, is_string_key, passing, bytes_key_of, string_key_of, digit_of, digits_of, printed_key}
use Rattle.judy_model.specs.declared.keys.TheConstants.{LONGEST_KEY}

-- what a test of each element says of them
All-from_test : (test : ℕ → Bool) (P : ℕ → Type 0) → ((n : ℕ) → test n ≡ true → P n) → (xs : List ℕ) → list_all test xs ≡ true → All P xs
All-from_test test P each [] all = All-nil P
All-from_test test P each (x ∷ xs) all =
    let parts = and_parts (test x) (list_all test xs) all in
    All-cons P x xs (each x parts.0) (All-from_test test P each xs parts.1)

-- ---- what a token says

shown_is_byte : (n : ℕ) → is_shown n ≡ true → n < 256
shown_is_byte n shown = let most = leb-true n 126 (and_parts (nat_le 33 n) (nat_le n 126) shown).1 in omega arith

digit_is_small : (sign : ℕ) → IfSome (digit_value sign) (λ value. value < 16)
digit_is_small sign = grind (arith)

with_byte-IsByteString : (high low : Option ℕ) (bytes : Option (List ℕ)) → IfSome high (λ value. value < 16) → IfSome low (λ value. value < 16) → IfSome bytes IsByteString →
    IfSome (with_byte high low bytes) IsByteString
with_byte-IsByteString (Some high) (Some low) (Some bytes) h l rest = All-cons (λ byte. byte < 256) (high * 16 + low) bytes (omega arith) rest
with_byte-IsByteString (Some high) (Some low) None h l rest = tt
with_byte-IsByteString (Some high) None bytes h l rest = tt
with_byte-IsByteString None low bytes h l rest = tt

bytes_of_digits-IsByteString : (signs : List ℕ) → IfSome (bytes_of_digits signs) IsByteString
bytes_of_digits-IsByteString [] = All-nil (λ byte. byte < 256)
bytes_of_digits-IsByteString (sign ∷ []) = tt
bytes_of_digits-IsByteString (high ∷ low ∷ signs) =
    with_byte-IsByteString (digit_value high) (digit_value low) (bytes_of_digits signs) (digit_is_small high) (digit_is_small low) (bytes_of_digits-IsByteString signs)

shown-IsByteString : (signs : List ℕ) → IfSome (cond (list_all is_shown signs) (Some signs) None) IsByteString
shown-IsByteString signs = elim (list_all is_shown signs) as (λ b. list_all is_shown signs ≡ b → IfSome (cond b (Some signs) None) IsByteString) [
  | true ↦ λ all. All-from_test is_shown (λ byte. byte < 256) shown_is_byte signs all
  | false ↦ λ _. tt
] refl

-- what a key token says is a byte string
pub key_of-IsByteString : (token : List ℕ) → IfSome (key_of token) IsByteString
key_of-IsByteString [] = tt
key_of-IsByteString (sign ∷ signs) =
    elim (sign == 61) as (λ b. IfSome (cond b (cond (list_all is_shown signs) (Some signs) None) (cond (sign == 35) (bytes_of_digits signs) None)) IsByteString) [
      | true ↦ shown-IsByteString signs
      | false ↦ elim (sign == 35) as (λ b. IfSome (cond b (bytes_of_digits signs) None) IsByteString) [
        | true ↦ bytes_of_digits-IsByteString signs
        | false ↦ tt
      ]
    ]

is_bytes_key-IsBytesKey : (key : List ℕ) → IsByteString key → is_bytes_key key ≡ true → IsBytesKey key
is_bytes_key-IsBytesKey key bytes short = record { is_byte_string = bytes; within_limit = leb-true (length key) LONGEST_KEY short }

not_zero : (byte : ℕ) → not (byte == 0) ≡ true → byte ≢ 0
not_zero byte other zero = absurd (cc)

is_string_key-IsStringKey : (key : List ℕ) → IsByteString key → is_string_key key ≡ true → IsStringKey key
is_string_key-IsStringKey key bytes good =
    let parts = and_parts (is_bytes_key key) (list_all (λ byte. not (byte == 0)) key) good in
    record { is_bytes_key = is_bytes_key-IsBytesKey key bytes parts.0; without_zero = All-from_test (λ byte. not (byte == 0)) (λ byte. byte ≢ 0) not_zero key parts.1 }

passed : (test : List ℕ → Bool) (P : List ℕ → Type 0) → ((key : List ℕ) → IsByteString key → test key ≡ true → P key) → (said : Option (List ℕ)) → IfSome said IsByteString →
    IfSome (passing test said) P
passed test P each None bytes = tt
passed test P each (Some key) bytes = elim (test key) as (λ b. test key ≡ b → IfSome (cond b (Some key) None) P) [
  | true ↦ λ good. each key bytes good
  | false ↦ λ _. tt
] refl

-- and a key of the kind, where it is one at all
pub bytes_key_of-IsBytesKey : (token : List ℕ) → IfSome (bytes_key_of token) IsBytesKey
bytes_key_of-IsBytesKey token = passed is_bytes_key IsBytesKey is_bytes_key-IsBytesKey (key_of token) (key_of-IsByteString token)

pub string_key_of-IsStringKey : (token : List ℕ) → IfSome (string_key_of token) IsStringKey
string_key_of-IsStringKey token = passed is_string_key IsStringKey is_string_key-IsStringKey (key_of token) (key_of-IsByteString token)

-- a token says at most one byte string
pub key_of-one : (token key other : List ℕ) → key_of token ≡ Some key → key_of token ≡ Some other → key ≡ other
key_of-one token key other one two = let same : Some key ≡ Some other = sym one ∙ two in cc

-- ---- how a key is printed

digit_value-digit_of : (value : ℕ) → value < 16 → digit_value (digit_of value) ≡ Some value
digit_value-digit_of value small = grind (arith)

bytes_of_digits-digits_of : (key : List ℕ) → IsByteString key → bytes_of_digits (digits_of key) ≡ Some key
bytes_of_digits-digits_of [] bytes = refl
bytes_of_digits-digits_of (byte ∷ key) bytes =
    let small = All-head (λ byte. byte < 256) byte key bytes in
    let rest = bytes_of_digits-digits_of key (All-tail (λ byte. byte < 256) byte key bytes) in
    let whole : byte / 16 * 16 + byte % 16 ≡ byte = omega arith in
    rw (digit_value-digit_of (byte / 16) (omega arith), digit_value-digit_of (byte % 16) (omega arith), rest) (ap (λ first. Some (first ∷ key)) whole)

-- a key as it is printed says that key
pub key_of-printed_key : (key : List ℕ) → IsByteString key → key_of (printed_key key) ≡ Some key
key_of-printed_key key bytes = elim (list_all is_shown key) as (λ b. list_all is_shown key ≡ b → key_of (cond b (61 ∷ key) (35 ∷ digits_of key)) ≡ Some key) [
  | true ↦ λ all. rw all refl
  | false ↦ λ _. bytes_of_digits-digits_of key bytes
] refl

test_from_All : (test : ℕ → Bool) (P : ℕ → Type 0) → ((n : ℕ) → P n → test n ≡ true) → (xs : List ℕ) → All P xs → list_all test xs ≡ true
test_from_All test P each [] all = refl
test_from_All test P each (x ∷ xs) all = rw (each x (All-head P x xs all), test_from_All test P each xs (All-tail P x xs all)) refl

IsBytesKey-test : (key : List ℕ) → IsBytesKey key → is_bytes_key key ≡ true
IsBytesKey-test key is = le-leb (length key) LONGEST_KEY is.within_limit

IsStringKey-test : (key : List ℕ) → IsStringKey key → is_string_key key ≡ true
IsStringKey-test key is =
    rw (IsBytesKey-test key is.is_bytes_key, test_from_All (λ byte. not (byte == 0)) (λ byte. byte ≢ 0) (λ byte other. grind (arith, other)) key is.without_zero) refl

pub bytes_key_of-printed_key : (key : List ℕ) → IsBytesKey key → bytes_key_of (printed_key key) ≡ Some key
bytes_key_of-printed_key key is = rw (key_of-printed_key key is.is_byte_string, IsBytesKey-test key is) refl

pub string_key_of-printed_key : (key : List ℕ) → IsStringKey key → string_key_of (printed_key key) ≡ Some key
string_key_of-printed_key key is = rw (key_of-printed_key key is.is_bytes_key.is_byte_string, IsStringKey-test key is) refl

-- keys that are printed alike are alike
pub printed_key-one : (key other : List ℕ) → IsByteString key → IsByteString other → printed_key key ≡ printed_key other → key ≡ other
printed_key-one key other bytes others same =
    key_of-one (printed_key key) key other (key_of-printed_key key bytes) (ap key_of same ∙ key_of-printed_key other others)

-- no space stands in it, so that it is one token
digit_of-no_space : (value : ℕ) → (digit_of value == 32) ≡ false
digit_of-no_space value = grind (arith)

digits_of-no_space : (key : List ℕ) → All (λ byte. (byte == 32) ≡ false) (digits_of key)
digits_of-no_space [] = All-nil (λ byte. (byte == 32) ≡ false)
digits_of-no_space (byte ∷ key) =
    All-cons (λ byte. (byte == 32) ≡ false) (digit_of (byte / 16)) (digit_of (byte % 16) ∷ digits_of key) (digit_of-no_space (byte / 16))
    (All-cons (λ byte. (byte == 32) ≡ false) (digit_of (byte % 16)) (digits_of key) (digit_of-no_space (byte % 16)) (digits_of-no_space key))

shown_is_no_space : (n : ℕ) → is_shown n ≡ true → (n == 32) ≡ false
shown_is_no_space n shown = let least = leb-true 33 n (and_parts (nat_le 33 n) (nat_le n 126) shown).0 in grind (arith, least)

one_token : (first : ℕ) (rest : List ℕ) → (first == 32) ≡ false → All (λ byte. (byte == 32) ≡ false) rest → tokens_of (first ∷ rest) ≡ (first ∷ rest) ∷ []
one_token first rest here there =
    let some : nat_lt 0 (length (first ∷ rest)) ≡ true = lt-ltb 0 (length (first ∷ rest)) (omega arith) in
    ap (filter (λ token. nat_lt 0 (length token))) (slice_split_none (λ byte. byte == 32) (first ∷ rest) (All-cons (λ byte. (byte == 32) ≡ false) first rest here there)) ∙ rw some refl

pub tokens_of-printed_key : (key : List ℕ) → tokens_of (printed_key key) ≡ printed_key key ∷ []
tokens_of-printed_key key = elim (list_all is_shown key) as (λ b. list_all is_shown key ≡ b → tokens_of (cond b (61 ∷ key) (35 ∷ digits_of key)) ≡ cond b (61 ∷ key) (35 ∷ digits_of key) ∷ []) [
  | true ↦ λ all. one_token 61 key refl (All-from_test is_shown (λ byte. (byte == 32) ≡ false) shown_is_no_space key all)
  | false ↦ λ _. one_token 35 (digits_of key) refl (digits_of-no_space key)
] refl
