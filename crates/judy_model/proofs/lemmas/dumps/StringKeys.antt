-- Words, byte strings and keys without a zero byte: what is read is spelled so, and what is spelled so is read.
use Rattle.std.proofs.Common.{◌≡◌, ℕ, ◌≢◌, Bool, true, false, not, ◌&&◌, ◌==◌, leb, List, [], ◌∷◌, ◌++◌, length, refl, sym, ap, ◌∙◌, arith, All}
use Rattle.std.specs.List.{list_all}
use Rattle.std.proofs.lemmas.Bool.{eqb-true, leb-true, le-leb, and_parts}
use Rattle.std.proofs.lemmas.List.Elements.{All-nil, All-cons, All-head, All-tail}
use Rattle.judy_model.specs.Keys.{IsWord, IsStringKey, IsBytesKey, IsByteString}
use Rattle.judy_model.specs.WordBytes.{low_bytes}
use Rattle.judy_model.specs.Fields.{Flaw, bad_key, bytes, number, field}
use Rattle.judy_model.specs.DumpText as text
use Rattle.judy_model.specs.DumpGrammar as grammar
use Rattle.judy_model.specs.DumpGrammar.{is_without_zero}
use Rattle.judy_model.specs.declared.keys.TheConstants.{LONGEST_KEY}
use Rattle.judy_model.proofs.lemmas.dumps.FieldLemmas.{IsSpelled, sequence-IsSpelled, retold-IsSpelled, field-IsSpelled, number-IsSpelled, bytes-IsSpelled}

-- ---- tests of each byte

module _ (test : ℕ → Bool) (P : ℕ → Type 0) where
  pub All-from_test : ((byte : ℕ) → test byte ≡ true → P byte) → (bytes : List ℕ) → list_all test bytes ≡ true → All P bytes
  All-from_test each [] passes = All-nil P
  All-from_test each (byte ∷ bytes) passes =
      let both = and_parts (test byte) (list_all test bytes) passes in
      All-cons P byte bytes (each byte both.0) (All-from_test each bytes both.1)

  pub test_from_All : ((byte : ℕ) → P byte → test byte ≡ true) → (bytes : List ℕ) → All P bytes → list_all test bytes ≡ true
  test_from_All each [] all = refl
  test_from_All each (byte ∷ bytes) all =
      λ t. each byte (All-head P byte bytes all) t && test_from_All each bytes (All-tail P byte bytes all) t

isnt_zero : (byte : ℕ) → not (byte == 0) ≡ true → byte ≢ 0
isnt_zero byte passes = λ is. absurd (let e : not (0 == 0) ≡ true = ap (λ b. not (b == 0)) (sym is) ∙ passes in cc)

not_zero : (byte : ℕ) → byte ≢ 0 → not (byte == 0) ≡ true
not_zero byte apart = elim (byte == 0) as (λ b. byte == 0 ≡ b → not b ≡ true) [
  | true ↦ λ e. absurd (apart (eqb-true byte 0 e))
  | false ↦ λ e. refl
] refl

-- No byte is zero.
pub without_zero-All : (bytes : List ℕ) → is_without_zero bytes ≡ true → All (λ byte. byte ≢ 0) bytes
without_zero-All = All-from_test (λ byte. not (byte == 0)) (λ byte. byte ≢ 0) isnt_zero

pub All-without_zero : (bytes : List ℕ) → All (λ byte. byte ≢ 0) bytes → is_without_zero bytes ≡ true
All-without_zero = test_from_All (λ byte. not (byte == 0)) (λ byte. byte ≢ 0) not_zero

-- ---- keys and values

pub word-IsSpelled : IsSpelled IsWord text.word grammar.word
word-IsSpelled = number-IsSpelled 8

pub string-IsSpelled : IsSpelled IsBytesKey text.string grammar.string
string-IsSpelled =
    let checks : List ((ℕ → Bool) × Flaw) = ((λ length. leb length LONGEST_KEY), bad_key) ∷ [] in
    sequence-IsSpelled _ (low_bytes 2) (field (number 2) checks) (λ long key. (length key ≡ long) × IsByteString key) (λ long key. key) bytes IsBytesKey text.string
    (field-IsSpelled _ (low_bytes 2) (number 2) checks (number-IsSpelled 2))
    (λ long _. bytes-IsSpelled long)
    (λ key is. let within = is.within_limit in (length key, (omega arith, (le-leb (length key) LONGEST_KEY within, tt)), (refl, is.is_byte_string), refl))
    (λ long key p q.
    let within = leb-true long LONGEST_KEY p.1.0 in let same = q.0 in
    (record { is_byte_string = q.1; within_limit = omega arith }, ap (λ n. low_bytes 2 n ++ key) same))

pub string_without_zero-IsSpelled : IsSpelled IsStringKey text.string grammar.string_without_zero
string_without_zero-IsSpelled =
    retold-IsSpelled _ IsStringKey text.string grammar.string_without_zero
    (λ key is. record { is_bytes_key = is.0; without_zero = without_zero-All key is.1.0 })
    (λ key is. (is.is_bytes_key, (All-without_zero key is.without_zero, tt)))
    (field-IsSpelled IsBytesKey text.string grammar.string ((is_without_zero, bad_key) ∷ []) string-IsSpelled)
