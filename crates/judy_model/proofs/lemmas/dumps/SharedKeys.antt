-- Keys behind a front that they share with the key before: what is read is spelled so, and what is spelled so is read.
use Rattle.std.proofs.Common.{◌≡◌, ℕ, suc, ◌+◌, ◌^◌, ◌<◌, ◌≤◌, ◌≢◌, Bool, true, false, cond, ◌==◌, leb, IfSome, List, [], ◌∷◌, ◌++◌, length, take, drop, flat_map, Option, None}
use Rattle.std.proofs.Common.{Some, unwrap_or, refl, sym, ap, subst, ◌∙◌, append-nil, arith}
use Rattle.std.proofs.lemmas.Bool.{eqb-true, eq-eqb, le-leb, leb-true}
use Rattle.std.proofs.lemmas.List.{drop_at, length-append, length-drop, length-take-le, take-append-drop}
use Rattle.std.proofs.lemmas.List.Elements.{All-nil, All-append, All-take, All-drop}
use Rattle.judy_model.specs.Keys.{IsByteString, IsStringKey}
use Rattle.judy_model.specs.WordBytes.{low_bytes}
use Rattle.judy_model.specs.Fields.{Flaw, bad_key, bad_prefix, Parser, bytes, number, field, ◌>>=◌, done}
use Rattle.judy_model.specs.DumpText as text
use Rattle.judy_model.specs.DumpText.{Version, jdy1, jdy2, shared_length, beside_before}
use Rattle.judy_model.specs.DumpGrammar as grammar
use Rattle.judy_model.specs.DumpGrammar.{is_without_zero, is_longest_shared}
use Rattle.judy_model.specs.declared.keys.TheConstants.{LONGEST_KEY}
use Rattle.judy_model.proofs.lemmas.dumps.FieldLemmas.{IsSpelled, Passes, sequence-IsSpelled, done-IsSpelled, field-IsSpelled, number-IsSpelled, bytes-IsSpelled}
use Rattle.judy_model.proofs.lemmas.dumps.EntryLemmas.{entries_text}
use Rattle.judy_model.proofs.lemmas.dumps.StringKeys.{All-without_zero, without_zero-All, string_without_zero-IsSpelled}

-- ---- fronts

same_test : (n : ℕ) → n == n ≡ true
same_test n = eq-eqb n n refl

-- What both share is no longer than each, and is a front of each.
pub record SharesFront (left right : List ℕ) (long : ℕ) : Type 0 where
  pub within_left : long ≤ length left
  pub within_right : long ≤ length right
  pub same : take long left ≡ take long right

no_front : (left right : List ℕ) → SharesFront left right 0
no_front left right = record { within_left = omega arith; within_right = omega arith; same = refl }

one_more : (byte other long : ℕ) (left right : List ℕ) → byte == other ≡ true → SharesFront left right long → SharesFront (byte ∷ left) (other ∷ right) (suc long)
one_more byte other long left right is front =
    let here = eqb-true byte other is in
    let one = front.within_left in
    let two = front.within_right in
    record { within_left = omega arith; within_right = omega arith; same = λ t. here t ∷ front.same t }

by_test : (test : Bool) (byte other long : ℕ) (left right : List ℕ) → byte == other ≡ test → SharesFront left right long → SharesFront (byte ∷ left) (other ∷ right) (cond test (suc long) 0)
by_test true byte other long left right is front = one_more byte other long left right is front
by_test false byte other long left right is front = no_front (byte ∷ left) (other ∷ right)

pub shares_front : (left right : List ℕ) → SharesFront left right (shared_length left right)
shares_front [] right = no_front [] right
shares_front (byte ∷ left) [] = no_front (byte ∷ left) []
shares_front (byte ∷ left) (other ∷ right) = by_test (byte == other) byte other (shared_length left right) left right refl (shares_front left right)

-- A front that both have is shared.
pub front_is_shared : (front left right : List ℕ) → length front ≤ shared_length (front ++ left) (front ++ right)
front_is_shared [] left right = omega arith
front_is_shared (byte ∷ front) left right =
    let rest = front_is_shared front left right in
    let same : shared_length (byte ∷ front ++ left) (byte ∷ front ++ right) ≡ suc (shared_length (front ++ left) (front ++ right)) =
    ap (λ t. cond t (suc (shared_length (front ++ left) (front ++ right))) 0) (same_test byte) in
    omega arith

-- ---- keys behind a front

module _ (before : List ℕ) (was : IsStringKey before) where
  abbrev shared_checks : List ((ℕ → Bool) × Flaw)
  shared_checks = ((λ shared. leb shared (length before)), bad_prefix) ∷ []

  abbrev rest_checks : ℕ → List ((ℕ → Bool) × Flaw)
  rest_checks shared = ((λ rest. leb (shared + rest) LONGEST_KEY), bad_key) ∷ []

  abbrev suffix_checks : ℕ → List ((List ℕ → Bool) × Flaw)
  suffix_checks shared = (is_without_zero, bad_key) ∷ (is_longest_shared before shared, bad_prefix) ∷ []

  -- A key that shares so many bytes with the one before.
  abbrev Shares : ℕ → List ℕ → Type 0
  Shares shared key = (shared_length before key ≡ shared) × IsStringKey key

  abbrev Rests : ℕ → ℕ → List ℕ → Type 0
  Rests shared rest key = Shares shared key × (shared + rest ≡ length key)

  abbrev suffix_part : ℕ → ℕ → Parser (List ℕ)
  suffix_part shared rest = field (bytes rest) (suffix_checks shared) >>= λ suffix. done (take shared before ++ suffix)

  -- The front of a key is that of the one before.
  front_of : (shared : ℕ) (key : List ℕ) → shared_length before key ≡ shared → take shared before ++ drop shared key ≡ key
  front_of shared key is =
      let front : take shared before ≡ take shared key = subst (λ n. take n before ≡ take n key) is (shares_front before key).same in
      ap (λ f. f ++ drop shared key) front ∙ take-append-drop shared key

  module _ (shared : ℕ) (inside : shared ≤ length before) where
    front_long : length (take shared before) ≡ shared
    front_long = length-take-le shared before inside

    -- A front of the key before and bytes behind it are a key.
    made-IsStringKey : (suffix : List ℕ) → shared + length suffix ≤ LONGEST_KEY → IsByteString suffix → is_without_zero suffix ≡ true → IsStringKey (take shared before ++ suffix)
    made-IsStringKey suffix fits are without =
        let long = length-append (take shared before) suffix in
        let front = front_long in
        record {
          is_bytes_key = record {
            is_byte_string = All-append (λ byte. byte < 256) (take shared before) suffix (All-take (λ byte. byte < 256) shared before was.is_bytes_key.is_byte_string) are;
            within_limit = omega arith;
          };
          without_zero = All-append (λ byte. byte ≢ 0) (take shared before) suffix (All-take (λ byte. byte ≢ 0) shared before was.without_zero) (without_zero-All suffix without);
        }

    suffix-IsSpelled : (rest : ℕ) → shared + rest ≤ LONGEST_KEY → IsSpelled (Rests shared rest) (drop shared) (suffix_part shared rest)
    suffix-IsSpelled rest fits =
        sequence-IsSpelled (λ suffix. ((length suffix ≡ rest) × IsByteString suffix) × Passes (suffix_checks shared) suffix) (λ suffix. suffix) (field (bytes rest) (suffix_checks shared))
        (λ suffix key. key ≡ take shared before ++ suffix) (λ suffix key. []) (λ suffix. done (take shared before ++ suffix)) (Rests shared rest) (drop shared)
        (field-IsSpelled _ (λ suffix. suffix) (bytes rest) (suffix_checks shared) (bytes-IsSpelled rest))
        (λ suffix _. done-IsSpelled (take shared before ++ suffix))
        (λ key is.
        let whole = front_of shared key is.0.0 in
        let long = length-drop shared key in
        let all = is.1 in
        let same = ap (shared_length before) whole ∙ is.0.0 in (
          drop shared key,
          (
            (omega arith, All-drop (λ byte. byte < 256) shared key is.0.1.is_bytes_key.is_byte_string),
            (All-without_zero (drop shared key) (All-drop (λ byte. byte ≢ 0) shared key is.0.1.without_zero), (eq-eqb _ shared same, tt)),
          ),
          sym whole,
          sym (append-nil (drop shared key)),
        ))
        (λ suffix key p same.
        let long = length-append (take shared before) suffix in
        let front = front_long in
        let few = p.0.0 in
        let is = eqb-true _ shared p.1.1.0 in (
          subst (Rests shared rest) (sym same) ((is, made-IsStringKey suffix (omega arith) p.0.1 p.1.0), omega arith),
          ap (drop shared) same ∙ drop_at (take shared before) suffix shared front_long ∙ sym (append-nil suffix),
        ))

    rest-IsSpelled : IsSpelled (Shares shared) (λ key. text.string (drop shared key)) (field (number 2) (rest_checks shared) >>= suffix_part shared)
    rest-IsSpelled =
        sequence-IsSpelled (λ rest. (rest < 256 ^ 2) × Passes (rest_checks shared) rest) (low_bytes 2) (field (number 2) (rest_checks shared))
        (λ rest key. Rests shared rest key) (λ rest key. drop shared key) (suffix_part shared) (Shares shared) (λ key. text.string (drop shared key))
        (field-IsSpelled _ (low_bytes 2) (number 2) (rest_checks shared) (number-IsSpelled 2))
        (λ rest p. suffix-IsSpelled rest (leb-true (shared + rest) LONGEST_KEY p.1.0))
        (λ key is.
        let within = is.1.is_bytes_key.within_limit in
        let front = (shares_front before key).within_right in
        let same = is.0 in
        let long = length-drop shared key in
        let all : shared + length (drop shared key) ≡ length key = omega arith in
        let few : shared + length (drop shared key) ≤ LONGEST_KEY = omega arith in
        (length (drop shared key), (omega arith, (le-leb (shared + length (drop shared key)) LONGEST_KEY few, tt)), (is, all), refl))
        (λ rest key p q.
        let all = q.1 in
        let long = length-drop shared key in
        let few : length (drop shared key) ≡ rest = omega arith in
        (q.0, ap (λ n. low_bytes 2 n ++ drop shared key) few))

  -- A key by the one before it.
  pub string_behind_front-IsSpelled : IsSpelled IsStringKey (text.string_key jdy2 before) (grammar.string_behind_front before)
  string_behind_front-IsSpelled =
      sequence-IsSpelled (λ shared. (shared < 256 ^ 2) × Passes shared_checks shared) (low_bytes 2) (field (number 2) shared_checks)
      Shares (λ shared key. text.string (drop shared key)) (λ shared. field (number 2) (rest_checks shared) >>= suffix_part shared) IsStringKey (text.string_key jdy2 before)
      (field-IsSpelled _ (low_bytes 2) (number 2) shared_checks (number-IsSpelled 2))
      (λ shared p. rest-IsSpelled shared (leb-true shared (length before) p.1.0))
      (λ key is.
      let front = shares_front before key in
      let inside = front.within_left in
      let few = front.within_right in
      let within = is.is_bytes_key.within_limit in
      (shared_length before key, (omega arith, (le-leb (shared_length before key) (length before) inside, tt)), (refl, is), refl))
      (λ shared key p q. (q.1, ap (λ n. low_bytes 2 n ++ text.string (drop n key)) q.0))

-- ---- keys in either format

none-IsStringKey : IsStringKey []
none-IsStringKey = record { is_bytes_key = record { is_byte_string = All-nil (λ byte. byte < 256); within_limit = omega arith }; without_zero = All-nil (λ byte. byte ≢ 0) }

before-IsStringKey : (before : Option (List ℕ)) → IfSome before IsStringKey → IsStringKey (unwrap_or before [])
before-IsStringKey None was = none-IsStringKey
before-IsStringKey (Some key) was = was

-- A key as a dump in a format has it behind the key before.
abbrev pub key_text : Version → Option (List ℕ) → List ℕ → List ℕ
key_text version before = text.string_key version (unwrap_or before [])

-- Entries beside the keys before them are written so.
pub beside-entries_text : (version : Version) (before : Option (List ℕ)) (pairs : List (List ℕ × ℕ))
    → flat_map (λ beside. text.string_key version beside.0 beside.1.0 ++ text.word beside.1.1) (beside_before (unwrap_or before []) pairs) ≡ entries_text (key_text version) text.word before pairs
beside-entries_text version before [] = refl
beside-entries_text version before (pair ∷ pairs) = ap (λ t. (key_text version before pair.0 ++ text.word pair.1) ++ t) (beside-entries_text version (Some pair.0) pairs)

pub string_key-IsSpelled : (version : Version) (before : Option (List ℕ)) → IfSome before IsStringKey → IsSpelled IsStringKey (key_text version before) (grammar.string_key version before)
string_key-IsSpelled jdy1 before was = string_without_zero-IsSpelled
string_key-IsSpelled jdy2 before was = string_behind_front-IsSpelled (unwrap_or before []) (before-IsStringKey before was)
