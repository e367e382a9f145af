-- What is found in pairs by a key.
use Rattle.std.proofs.Common.{◌≡◌, ℕ, zero, suc, ◌+◌, ◌<◌, ◌≤◌, true, false, cond, ⊎_elim, [], ◌∷◌, ◌++◌, length, get_or, Some, None, slice_get, sym, refl, ap, ◌∙◌, subst, arith}
use Rattle.std.proofs.Common.{ne_eqb, eq-eqb, true≢false, ◌||◌}
use Rattle.std.specs.Cmp.{unsigned_tied}
use Rattle.std.specs.Ordering.{eq_by_cmp}
use Rattle.std.specs.List.Sorted.{IsStrictlySortedBy}
use Rattle.std.proofs.lemmas.Bool.{cases_order}
use Rattle.std.proofs.lemmas.Option.{same_Some, slice_get_within}
use Rattle.judy_model.specs.Keys.{word_order}
use Rattle.judy_model.proofs.lemmas.maps.Ascending.{all_among, Among-slice_get}
use Rattle.judy_bits.specs.ByteSets.{has, rank, place}
use Rattle.judy_bits.proofs.SetLemmas.{slice_get-rank, later_above}
use Rattle.judy_leaf.specs.KeyLists.{keys_of, values_of, shift}
use Rattle.judy_leaf.proofs.LeafLists.{length-keys_of}
use Rattle.judy_node.specs.Trees.{Pairs, IsMap}
use Rattle.judy_query.specs.Parts.{value_of, IsPart}

tied : (key other : ℕ) → key ≡ other → eq_by_cmp word_order key other ≡ true
tied key other same = unsigned_tied key other ∙ eq-eqb key other same

untied : (key other : ℕ) → (key ≡ other → ⊥) → eq_by_cmp word_order key other ≡ false
untied key other apart = unsigned_tied key other ∙ ne_eqb key other apart

pub here : (key : ℕ) (pair : ℕ × ℕ) (pairs : Pairs) → key ≡ pair.0 → value_of (pair ∷ pairs) key ≡ Some pair.1
here key pair pairs same = ap (λ t. cond t (Some pair.1) (value_of pairs key)) (tied key pair.0 same)

pub later : (key : ℕ) (pair : ℕ × ℕ) (pairs : Pairs) → (key ≡ pair.0 → ⊥) → value_of (pair ∷ pairs) key ≡ value_of pairs key
later key pair pairs apart = ap (λ t. cond t (Some pair.1) (value_of pairs key)) (untied key pair.0 apart)

-- ---- where keys stand

pub absent_value : (pairs : Pairs) (key : ℕ) → has (keys_of pairs) key ≡ false → value_of pairs key ≡ None
absent_value [] key absent = refl
absent_value (pair ∷ pairs) key absent =
    ⊎_elim
    (λ (same : pair.0 ≡ key). absurd (true≢false (sym (ap (λ t. t || has (keys_of pairs) key) (eq-eqb pair.0 key same)) ∙ absent)))
    (λ apart.
    let differ : pair.0 ≡ key → ⊥ = λ e. ⊎_elim (λ (less : pair.0 < key). let never : ⊥ = omega arith in never) (λ (more : key < pair.0). let never : ⊥ = omega arith in never) apart in
    later key pair pairs (λ e. differ (sym e)) ∙ absent_value pairs key (ap (λ t. t || has (keys_of pairs) key) (sym (ne_eqb pair.0 key differ)) ∙ absent))
    (cases_order pair.0 key)

pub present_value : (pairs : Pairs) (key at : ℕ) → IsStrictlySortedBy word_order (keys_of pairs) → slice_get (keys_of pairs) at ≡ Some key → value_of pairs key ≡ Some (get_or (values_of pairs) at 0)
unfolding IsStrictlySortedBy
present_value [] key at ascending there = cc
present_value (pair ∷ pairs) key zero ascending there = here key pair pairs (sym (same_Some pair.0 key there))
present_value (pair ∷ pairs) key (suc at) ascending there =
    let above : pair.0 < key = all_among (λ y. pair.0 < y) (keys_of pairs) key (later_above pair.0 (keys_of pairs) ascending.0) (Among-slice_get (keys_of pairs) at key there) in
    later key pair pairs (λ (e : key ≡ pair.0). let never : ⊥ = omega arith in never) ∙ present_value pairs key at ascending.1 there

module _ (pairs : Pairs) (key : ℕ) where
  pub placed : IsStrictlySortedBy word_order (keys_of pairs) → (at : ℕ) → place (keys_of pairs) key ≡ Some at → slice_get (keys_of pairs) at ≡ Some key
  placed ascending at = elim (has (keys_of pairs) key) as (λ b. has (keys_of pairs) key ≡ b → cond b (Some (rank (keys_of pairs) key)) None ≡ Some at → slice_get (keys_of pairs) at ≡ Some key) [
    | true ↦ λ held found. ap (slice_get (keys_of pairs)) (sym (same_Some (rank (keys_of pairs) key) at found)) ∙ slice_get-rank (keys_of pairs) ascending key held
    | false ↦ λ _ none. cc
  ] refl

  pub place_inside : IsStrictlySortedBy word_order (keys_of pairs) → (at : ℕ) → place (keys_of pairs) key ≡ Some at → at < length pairs
  place_inside ascending at found = subst (λ n. at < n) (length-keys_of pairs) (slice_get_within (keys_of pairs) at key (placed ascending at found))

  pub place_value : IsStrictlySortedBy word_order (keys_of pairs) → (at value : ℕ) → place (keys_of pairs) key ≡ Some at → value ≡ get_or (values_of pairs) at 0 → Some value ≡ value_of pairs key
  place_value ascending at value found is = ap Some is ∙ sym (present_value pairs key at ascending (placed ascending at found))

  pub place_none : place (keys_of pairs) key ≡ None → None ≡ value_of pairs key
  place_none = elim (has (keys_of pairs) key) as (λ b. has (keys_of pairs) key ≡ b → cond b (Some (rank (keys_of pairs) key)) None ≡ None → None ≡ value_of pairs key) [
    | true ↦ λ _ never. cc
    | false ↦ λ absent _. sym (absent_value pairs key absent)
  ] refl

-- ---- parts

value-below : (words low top : ℕ) (pairs rest : Pairs) (key : ℕ) → top ≤ key → IsMap words low top pairs → value_of (pairs ++ rest) key ≡ value_of rest key
value-below words low top [] rest key above map = refl
value-below words low top (pair ∷ pairs) rest key above map =
    let last = map.1 in
    later key pair (pairs ++ rest) (λ (e : key ≡ pair.0). let never : ⊥ = omega arith in never) ∙ value-below words (pair.0 + 1) top pairs rest key above map.3

pub value-above : (words low top : ℕ) (pairs : Pairs) (key : ℕ) → key < low → IsMap words low top pairs → value_of pairs key ≡ None
value-above words low top [] key below map = refl
value-above words low top (pair ∷ pairs) key below map =
    let first = map.0 in
    later key pair pairs (λ (e : key ≡ pair.0). let never : ⊥ = omega arith in never) ∙ value-above words (pair.0 + 1) top pairs key (omega arith) map.3

pub value-shift : (by key whole : ℕ) (pairs rest : Pairs) → whole ≡ by + key → value_of rest whole ≡ None → value_of (shift by pairs ++ rest) whole ≡ value_of pairs key
value-shift by key whole [] rest sum none = none
value-shift by key whole (pair ∷ pairs) rest sum none =
    ⊎_elim
    (λ (same : key ≡ pair.0). here whole (by + pair.0, pair.1) (shift by pairs ++ rest) (omega arith) ∙ sym (here key pair pairs same))
    (λ apart.
    let differ : key ≡ pair.0 → ⊥ = λ e. ⊎_elim (λ (less : key < pair.0). let never : ⊥ = omega arith in never) (λ (more : pair.0 < key). let never : ⊥ = omega arith in never) apart in
    later whole (by + pair.0, pair.1) (shift by pairs ++ rest) (λ (e : whole ≡ by + pair.0). differ (omega arith))
    ∙ value-shift by key whole pairs rest sum none
    ∙ sym (later key pair pairs differ))
    (cases_order key pair.0)

-- The value of a key of a part is what the part has for what is left of the key.
pub part-value : (words top : ℕ) (tree : Pairs) (base unit left key : ℕ) (pairs front back : Pairs) → IsPart words top tree base unit pairs front back →
    key ≡ base + left → left < unit → value_of tree key ≡ value_of pairs left
part-value words top tree base unit left key pairs front back part sum within =
    ap (λ ps. value_of ps key) part.same
    ∙ value-below words 0 base front (shift base pairs ++ back) key (omega arith) part.before
    ∙ value-shift base left key pairs back sum (value-above words (base + unit) top back key (omega arith) part.after)
