-- The entry at the place of a key.
use Rattle.std.proofs.Common.{◌≡◌, ℕ, zero, suc, ◌+◌, ◌<◌, ◌≤◌, Bool, true, false, cond, not, List, [], ◌∷◌, length, drop, add-one, Option, Some, None, refl, sym, ap, subst, ◌∙◌}
use Rattle.std.proofs.Common.{arith, nat_lt, MutBor}
use Rattle.std.specs.Prelude.{bytes_eq, IfSome}
use Rattle.std.specs.Option.{option_copied_mut}
use Rattle.std.proofs.lemmas.Option.{slice_get_within}
use Rattle.std.specs.List.{slice_get, position, IsDistinct}
use Rattle.std.proofs.lemmas.Bool.{ltb-false}
use Rattle.std.proofs.lemmas.List.{drop_all, length-map}
use Rattle.std.specs.Map.{keys_of, values_of, lookup, set_value}
use Rattle.indexmap.specs.IndexMap.{set_value_at}
use Rattle.judy_shelf.specs.declared.array.Array.{Array}
use Rattle.judy_shelf.specs.Places.{place_of}
use Rattle.judy_shelf.specs.Shelves.{Entries, IsShelf}

next : (n : ℕ) → 1 + n ≡ suc n
next n = omega arith

module _ {K X : Type 0} (test : K → Bool) where
  -- its value is that of the key
  pub value_at_place : (entries : List (K × X)) → slice_get (values_of entries) (place_of test entries) ≡ lookup test entries
  value_at_place [] = refl
  value_at_place (entry ∷ entries) =
      elim (test entry.0) as (λ b. slice_get (entry.1 ∷ values_of entries) (cond (not b) (1 + place_of test entries) 0) ≡ cond b (Some entry.1) (lookup test entries)) [
        | true ↦ refl
        | false ↦ ap (slice_get (entry.1 ∷ values_of entries)) (next (place_of test entries)) ∙ value_at_place entries
      ]

  -- to write it is to write that of the key
  pub write_at_place : (entries : List (K × X)) (value : X) → set_value_at entries (place_of test entries) value ≡ set_value test entries value
  write_at_place [] value = refl
  write_at_place (entry ∷ entries) value =
      elim (test entry.0) as (λ b. set_value_at (entry ∷ entries) (cond (not b) (1 + place_of test entries) 0) value ≡ cond b ((entry.0, value) ∷ entries) (entry ∷ set_value test entries value)) [
        | true ↦ refl
        | false ↦ ap (λ at. set_value_at (entry ∷ entries) at value) (next (place_of test entries)) ∙ ap (λ rest. entry ∷ rest) (write_at_place entries value)
      ]

  pub place_within : (entries : List (K × X)) → place_of test entries ≤ length entries
  place_within [] = omega arith
  place_within (entry ∷ entries) =
      let rest = place_within entries in
      elim (test entry.0) as (λ b. cond (not b) (1 + place_of test entries) 0 ≤ suc (length entries)) [
        | true ↦ omega arith
        | false ↦ omega arith
      ]

  at_place : (entries : List (K × X)) (place : ℕ) (entry : K × X) → Some entry ≡ slice_get entries place → drop place entries ≡ entry ∷ drop (suc place) entries
  at_place [] place entry there = absurd (cc)
  at_place (first ∷ entries) zero entry there = let same : first ≡ entry = cc in rw same refl
  at_place (first ∷ entries) (suc place) entry there = at_place entries place entry there

  -- a search from the first entry on ends at the first that passes, and goes on where one doesn't
  pub place_here : (entries : List (K × X)) (place : ℕ) (entry : K × X) → Some entry ≡ slice_get entries place → test entry.0 ≡ true → place_of test (drop place entries) ≡ 0
  place_here entries place entry there passes = rw (at_place entries place entry there, passes) refl

  pub place_behind : (entries : List (K × X)) (place : ℕ) (entry : K × X) → Some entry ≡ slice_get entries place → test entry.0 ≡ false →
      place_of test (drop place entries) ≡ 1 + place_of test (drop (place + 1) entries)
  place_behind entries place entry there fails = rw (at_place entries place entry there, fails, add-one) refl

  pub place_past : (entries : List (K × X)) (place : ℕ) → length entries ≤ place → place_of test (drop place entries) ≡ 0
  place_past entries place past = rw (drop_all place entries past) refl

  -- where no key passes that is the number of entries
  pub place_none : (entries : List (K × X)) → None ≡ position test (keys_of entries) → length entries ≡ place_of test entries
  place_none entries none =
      let within = place_within entries in
      elim (nat_lt (place_of test entries) (length (keys_of entries))) as (λ b. nat_lt (place_of test entries) (length (keys_of entries)) ≡ b →
      None ≡ cond b (Some (place_of test entries)) None → length entries ≡ place_of test entries) [
        | true ↦ λ _ e. absurd (cc)
        | false ↦ λ past _. omega (arith, ltb-false (place_of test entries) (length (keys_of entries)) past, length-map entries (λ (entry : K × X). entry.0))
      ] refl none

-- a shelf with another array at a place is one
keys_written : {K X : Type 0} (entries : List (K × X)) (place : ℕ) (value : X) → keys_of (set_value_at entries place value) ≡ keys_of entries
keys_written [] place value = refl
keys_written (entry ∷ entries) zero value = refl
keys_written (entry ∷ entries) (suc place) value = ap (λ keys. entry.0 ∷ keys) (keys_written entries place value)

length_written : {K X : Type 0} (entries : List (K × X)) (place : ℕ) (value : X) → length (set_value_at entries place value) ≡ length entries
length_written [] place value = refl
length_written (entry ∷ entries) zero value = refl
length_written (entry ∷ entries) (suc place) value = ap suc (length_written entries place value)

pub IsShelf-written : (entries : Entries) (place : ℕ) (array : Array) → IsShelf entries → IsShelf (set_value_at entries place array)
IsShelf-written entries place array shelf = record {
  within_limit = subst (λ n. n ≤ 64) (sym (length_written entries place array)) shelf.within_limit;
  names_differ = subst (IsDistinct bytes_eq) (sym (keys_written entries place array)) shelf.names_differ;
}

-- what was found at a place is there
pub found_within : {P : Type 0} (found : Option (MutBor Array)) (entries : Entries) (place : ℕ) → option_copied_mut found ≡ slice_get (values_of entries) place →
    (place < length entries → P) → IfSome found (λ _. P)
found_within None entries place is name = tt
found_within (Some array) entries place is name =
    let within : place < length (values_of entries) = slice_get_within (values_of entries) place array.now (sym is) in
    name (omega (arith, within, length-map entries (λ (entry : List ℕ × Array). entry.1)))
