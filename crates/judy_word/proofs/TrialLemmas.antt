-- What follows for an array from the answer that a word was put in.
use Rattle.std.proofs.Common.{◌≡◌, ◌≢◌, ℕ, Bool, true, false, not, if◌then◌else◌, is_some, Option, None, Some, refl, sym, ap, ◌∙◌, subst, ⊎_elim}
use Rattle.std.specs.FinMap.{FinMap, get, insert, remove, contains_key, same_map, nat_cmp-IsAntisymmetric}
use Rattle.std.specs.Cmp.{nat_cmp_total}
use Rattle.judy_model.specs.Keys.{word_order}
use Rattle.judy_model.proofs.lemmas.maps.ChangesLemmas.{get-write_other, get-del_same, get-del_other}
use Rattle.judy_word.specs.Held.{with_new}
use Rattle.std.proofs.lemmas.Bool.{cases_eq}

module _ (map : FinMap word_order ℕ) (word : ℕ) where
  -- A word that was put in was absent,
  pub put-absent : true ≡ not (contains_key map word) → get map word ≡ None
  put-absent = elim (get map word) as (λ (found : Option ℕ). true ≡ not (is_some found) → found ≡ None) [
    | None ↦ λ added. refl
    | Some value ↦ λ added. cc
  ]

  -- has its value,
  pub put-new : (value : ℕ) → true ≡ not (contains_key map word) → with_new map word value ≡ insert map word value
  put-new value = elim (contains_key map word) as (λ (held : Bool). true ≡ not held → (if held then map else insert map word value) ≡ insert map word value) [
    | true ↦ λ added. cc
    | false ↦ λ added. refl
  ]

  -- and taken out again leaves what was there before.
  pub put-undone : (value : ℕ) → true ≡ not (contains_key map word) → remove (with_new map word value) word ≡ map
  put-undone value added = ap (λ (made : FinMap word_order ℕ). remove made word) (put-new value added) ∙ same_map nat_cmp_total nat_cmp-IsAntisymmetric (remove (insert map word value) word) map same
    where
      same : (other : ℕ) → get (remove (insert map word value) word) other ≡ get map other
      same other = ⊎_elim
          (λ (is : word ≡ other). subst (λ (at : ℕ). get (remove (insert map word value) word) at ≡ get map at) is (get-del_same nat_cmp_total (insert map word value) word ∙ sym (put-absent added)))
          (λ (differ : word ≢ other). get-del_other nat_cmp_total (insert map word value) word nat_cmp-IsAntisymmetric other differ ∙
          get-write_other nat_cmp_total map word nat_cmp-IsAntisymmetric value other differ)
          (cases_eq word other)
