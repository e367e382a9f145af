-- Keys that are found with their values.
use Rattle.std.proofs.Common.{◌≡◌, ℕ, zero, suc, ◌+◌, ◌≤◌, ◌^◌, Bool, true, false, cond, [], ◌∷◌, slice_get, find, reverse, Option, Some, None, IfSome, refl, sym, ap, ◌∙◌, subst, arith}
use Rattle.std.specs.FinMap.{get}
use Rattle.std.specs.Option.{option_or, option_map}
use Rattle.std.proofs.lemmas.Option.{same_Some}
use Rattle.judy_model.proofs.lemmas.maps.Ascending.{find_last, find-reverse}
use Rattle.judy_node.specs.Trees.{Pairs, IsMap}
use Rattle.judy_change.specs.Removals.{value_in}
use Rattle.judy_change.proofs.Without.{value-same, value-apart}
use Rattle.judy_query.specs.Maps.{map_of}
use Rattle.judy_word.proofs.MapFacts.{get-value}

-- A pair stands among pairs whose keys ascend from one on.
record Stands (low : ℕ) (pairs : Pairs) (entry : ℕ × ℕ) : Type 0 where
  pub above : low ≤ entry.0
  pub value : value_in pairs entry.0 ≡ Some entry.1

here : (words low top : ℕ) (pair entry : ℕ × ℕ) (pairs : Pairs) → IsMap words low top (pair ∷ pairs) → pair ≡ entry → Stands low (pair ∷ pairs) entry
here words low top pair entry pairs map same =
    subst (Stands low (pair ∷ pairs)) same (record { above = map.0; value = value-same pair pairs pair.0 refl })

later : (words low top : ℕ) (pair entry : ℕ × ℕ) (pairs : Pairs) → IsMap words low top (pair ∷ pairs) → Stands (pair.0 + 1) pairs entry → Stands low (pair ∷ pairs) entry
later words low top pair entry pairs map stands =
    let first = map.0 in
    let beyond = stands.above in
    record { above = omega (arith, first, beyond); value = value-apart pair pairs entry.0 (λ same. omega (arith, same, beyond)) ∙ stands.value }

found : (words low top : ℕ) (p : ℕ × ℕ → Bool) (pairs : Pairs) (entry : ℕ × ℕ) → IsMap words low top pairs → find p pairs ≡ Some entry → Stands low pairs entry
found words low top p [] entry map = λ none. cc
found words low top p (pair ∷ pairs) entry map =
    elim (p pair) as (λ b. cond b (Some pair) (find p pairs) ≡ Some entry → Stands low (pair ∷ pairs) entry) [
      | true ↦ λ is. here words low top pair entry pairs map (same_Some pair entry is)
      | false ↦ λ is. later words low top pair entry pairs map (found words (pair.0 + 1) top p pairs entry map.3 is)
    ]

found_last : (words low top : ℕ) (p : ℕ × ℕ → Bool) (pairs : Pairs) (entry : ℕ × ℕ) → IsMap words low top pairs → find_last p pairs ≡ Some entry → Stands low pairs entry
found_last words low top p [] entry map = λ none. cc
found_last words low top p (pair ∷ pairs) entry map =
    elim (find_last p pairs) as (λ o. (o ≡ Some entry → Stands (pair.0 + 1) pairs entry) → option_or o (cond (p pair) (Some pair) None) ≡ Some entry → Stands low (pair ∷ pairs) entry) [
      | Some other ↦ λ rest is. later words low top pair entry pairs map (rest is)
      | None ↦ λ _. elim (p pair) as (λ b. cond b (Some pair) None ≡ Some entry → Stands low (pair ∷ pairs) entry) [
        | true ↦ λ is. here words low top pair entry pairs map (same_Some pair entry is)
        | false ↦ λ is. cc
      ]
    ] (found_last words (pair.0 + 1) top p pairs entry map.3)

found_at : (words low top at : ℕ) (pairs : Pairs) (entry : ℕ × ℕ) → IsMap words low top pairs → slice_get pairs at ≡ Some entry → Stands low pairs entry
found_at words low top at [] entry map is = cc
found_at words low top zero (pair ∷ pairs) entry map is = here words low top pair entry pairs map (same_Some pair entry is)
found_at words low top (suc at) (pair ∷ pairs) entry map is = later words low top pair entry pairs map (found_at words (pair.0 + 1) top at pairs entry map.3 is)

if_some : {A : Type 0} (P : A → Type 0) (result : Option A) → ((found : A) → result ≡ Some found → P found) → IfSome result P
if_some P None each = tt
if_some P (Some x) each = each x refl

module _ (words : ℕ) (pairs : Pairs) (is : IsMap words 0 (256 ^ 8) pairs) (result : Option (ℕ × ℕ)) where
  has_value : ((entry : ℕ × ℕ) → result ≡ Some entry → Stands 0 pairs entry) → IfSome result (λ entry. get (map_of pairs) entry.0 ≡ Some entry.1)
  has_value each = if_some (λ (entry : ℕ × ℕ). get (map_of pairs) entry.0 ≡ Some entry.1) result (λ entry same. get-value words (256 ^ 8) pairs is entry.0 ∙ (each entry same).value)

  -- A pair that a search from the front finds is a key with its value.
  pub value-found : (p : ℕ × ℕ → Bool) → result ≡ find p pairs → IfSome result (λ entry. get (map_of pairs) entry.0 ≡ Some entry.1)
  value-found p same = has_value (λ entry some. found words 0 (256 ^ 8) p pairs entry is (sym same ∙ some))

  -- So is one that a search from the back finds.
  pub value-found_last : (p : ℕ × ℕ → Bool) → result ≡ find p (reverse pairs) → IfSome result (λ entry. get (map_of pairs) entry.0 ≡ Some entry.1)
  value-found_last p same = has_value (λ entry some. found_last words 0 (256 ^ 8) p pairs entry is (sym (find-reverse p pairs) ∙ sym same ∙ some))

  -- So is one at a place.
  pub value-found_at : (at : ℕ) → result ≡ slice_get pairs at → IfSome result (λ entry. get (map_of pairs) entry.0 ≡ Some entry.1)
  value-found_at at same = has_value (λ entry some. found_at words 0 (256 ^ 8) at pairs entry is (sym same ∙ some))

-- The key of a pair that was found is the one that was sought, and so is none where none was found.
pub key_alone : {found : Option (ℕ × ℕ)} {entry : ℕ × ℕ} {sought : Option ℕ} → found ≡ Some entry → option_map (λ pair. pair.0) found ≡ sought → Some entry.0 ≡ sought
key_alone was is = sym (ap (option_map (λ pair. pair.0)) was) ∙ is

pub key_none : {found : Option (ℕ × ℕ)} {sought result : Option ℕ} → found ≡ None → option_map (λ pair. pair.0) found ≡ sought → result ≡ None → result ≡ sought
key_none was is none = none ∙ sym (ap (option_map (λ pair. pair.0)) was) ∙ is
