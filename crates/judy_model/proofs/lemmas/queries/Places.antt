-- Places in an ascending list, by how many of its elements pass a test that holds downwards.
use Rattle.std.proofs.Common.{◌≡◌, ℕ, zero, suc, ◌+◌, ◌-◌, ◌<◌, ◌≤◌, ◌==◌, Bool, true, false, cond, not, inl, inr, ⊎_elim, List, [], ◌∷◌, reverse, length, filter, find, slice_get}
use Rattle.std.proofs.Common.{Option, Some, None, sym, refl, ap, ◌∙◌, subst, arith, ne_eqb, Ordering, Less, is_lt, is_le}
use Rattle.std.specs.List.{AllByRecursion}
use Rattle.std.specs.List.Sorted.{IsStrictlySortedBy}
use Rattle.std.specs.Cmp.{IsTotalOrder}
use Rattle.std.specs.Option.{option_or}
use Rattle.std.proofs.lemmas.Option.{slice_get-get_or, same_Some, slice_get_within, get_or_from_slice_get}
use Rattle.std.proofs.lemmas.Bool.{false_from_ne_true, cases_lt}
use Rattle.std.proofs.lemmas.Map.Keys.{Less-from_sorted}
use Rattle.judy_model.proofs.lemmas.orders.Orders.{not_both, less_is, le_itself, lt_le_trans, le_from_not_lt, lt_from_not_le}
use Rattle.judy_model.proofs.lemmas.maps.Ascending.{Among, all_among, all_from_among, find_last, find-reverse, place_among}

-- A test holds downwards where it passes each key that is before one that it passes.
abbrev pub IsDownward : {K : Type 0} → (K → K → Ordering) → (K → Bool) → Type 0
IsDownward {K} order q = (x y : K) → order x y ≡ Less → q y ≡ true → q x ≡ true

-- The element before a place counted from 1, and none for 0.
abbrev pub before_place : {K : Type 0} → List K → ℕ → Option K
before_place xs n = cond (n == 0) None (slice_get xs (n - 1))

-- Before the place n + 1 stands the element at n.
pub before_place-suc : {K : Type 0} (xs : List K) (n : ℕ) → before_place xs (suc n) ≡ slice_get xs n
before_place-suc xs n = ap (λ b. cond b None (slice_get xs (suc n - 1))) (ne_eqb (suc n) 0 (λ e. omega arith)) ∙ ap (slice_get xs) (let e : suc n - 1 ≡ n = omega arith in e)

-- A filter keeps at most the whole list.
pub length-filter-le : {K : Type 0} (q : K → Bool) (xs : List K) → length (filter q xs) ≤ length xs
length-filter-le q [] = omega arith
length-filter-le q (x ∷ xs) =
    elim (q x) as (λ b. length (cond b (x ∷ filter q xs) (filter q xs)) ≤ suc (length xs)) [
      | true ↦ omega (arith, length-filter-le q xs)
      | false ↦ omega (arith, length-filter-le q xs)
    ]

-- A filter keeps no more than one that passes whatever it passes.
pub length-filter-mono : {K : Type 0} (p q : K → Bool) → ((x : K) → p x ≡ true → q x ≡ true) → (xs : List K) → length (filter p xs) ≤ length (filter q xs)
length-filter-mono p q weaker [] = omega arith
length-filter-mono p q weaker (x ∷ xs) =
    let rest = length-filter-mono p q weaker xs in
    elim (p x) as (λ b. p x ≡ b → length (cond b (x ∷ filter p xs) (filter p xs)) ≤ length (cond (q x) (x ∷ filter q xs) (filter q xs))) [
      | true ↦ λ passes. subst (λ b. suc (length (filter p xs)) ≤ length (cond b (x ∷ filter q xs) (filter q xs))) (sym (weaker x passes)) (omega (arith, rest))
      | false ↦ λ fails. elim (q x) as (λ b. length (filter p xs) ≤ length (cond b (x ∷ filter q xs) (filter q xs))) [ true ↦ omega (arith, rest) | false ↦ rest ]
    ] refl

-- Where no member passes, a filter keeps nothing.
pub filter_none : {K : Type 0} (q : K → Bool) (xs : List K) → AllByRecursion (λ x. q x ≡ false) xs → filter q xs ≡ []
filter_none q [] none = refl
filter_none q (x ∷ xs) none = ap (λ b. cond b (x ∷ filter q xs) (filter q xs)) none.0 ∙ filter_none q xs none.1

-- And there is no last that passes.
pub find_last_none : {K : Type 0} (q : K → Bool) (xs : List K) → AllByRecursion (λ x. q x ≡ false) xs → find_last q xs ≡ None
find_last_none q [] none = refl
find_last_none q (x ∷ xs) none = ap (λ b. option_or (find_last q xs) (cond b (Some x) None)) none.0 ∙ ap (λ found. option_or found None) (find_last_none q xs none.1)

-- Two tests that agree at each member keep the same.
pub filter_agree_among : {K : Type 0} (p q : K → Bool) (xs : List K) → ((x : K) → Among xs x → p x ≡ q x) → filter p xs ≡ filter q xs
filter_agree_among p q [] agree = refl
filter_agree_among p q (x ∷ xs) agree =
    let rest = filter_agree_among p q xs (λ y later. agree y (inr later)) in
    λ i. cond (agree x (inl refl) i) (x ∷ rest i) (rest i)

counted : {K : Type 0} (p : K → Bool) (x : K) (xs : List K) → length (filter p (x ∷ xs)) ≡ cond (p x) 1 0 + length (filter p xs)
counted p x xs = elim (p x) as (λ b. length (cond b (x ∷ filter p xs) (filter p xs)) ≡ cond b 1 0 + length (filter p xs)) [ true ↦ omega arith | false ↦ omega arith ]

added : (a b c d e f x y z : ℕ) → x ≡ a + d → y ≡ b + e → z ≡ c + f → a + b ≡ c → d + e ≡ f → x + y ≡ z
added a b c d e f x y z p q r s t = omega arith

-- Where at each element one test counts as much as two others do together, it does so over the list.
pub length-filter_split : {K : Type 0} (p q r : K → Bool) → ((x : K) → cond (p x) 1 0 + cond (q x) 1 0 ≡ cond (r x) 1 0) → (xs : List K) →
    length (filter p xs) + length (filter q xs) ≡ length (filter r xs)
length-filter_split p q r each [] = omega arith
length-filter_split p q r each (x ∷ xs) =
    added (cond (p x) 1 0) (cond (q x) 1 0) (cond (r x) 1 0) (length (filter p xs)) (length (filter q xs)) (length (filter r xs)) _ _ _ (counted p x xs)
    (counted q x xs) (counted r x xs) (each x) (length-filter_split p q r each xs)

module _ {K : Type 0} (q : K → Bool) where
  -- The number of elements that pass is a place, where all before it pass and none from it on.
  pub length-filter_is : (xs : List K) (place : ℕ) → place ≤ length xs → ((k : ℕ) (x : K) → slice_get xs k ≡ Some x → k < place → q x ≡ true) →
      ((k : ℕ) (x : K) → slice_get xs k ≡ Some x → place ≤ k → q x ≡ false) → length (filter q xs) ≡ place
  length-filter_is [] place within before after = omega arith
  length-filter_is (x ∷ xs) zero within before after =
      ap length (filter_none q (x ∷ xs) (all_from_among (λ y. q y ≡ false) (x ∷ xs) (λ y here. let at = place_among (x ∷ xs) y here in after at.0 y at.1 (omega arith))))
  length-filter_is (x ∷ xs) (suc place) within before after =
      ap (λ b. length (cond b (x ∷ filter q xs) (filter q xs))) (before 0 x refl (omega arith))
      ∙ ap suc (length-filter_is xs place (omega arith) (λ k y at below. before (suc k) y at (omega arith)) (λ k y at above. after (suc k) y at (omega arith)))

module _ {K : Type 0} (order : K → K → Ordering) (q : K → Bool) (down : IsDownward order q) where
  none_later : (x : K) (xs : List K) → AllByRecursion (λ y. order x y ≡ Less) xs → q x ≡ false → AllByRecursion (λ y. q y ≡ false) xs
  none_later x xs below fails =
      all_from_among (λ y. q y ≡ false) xs (λ y later. false_from_ne_true (q y) (λ passes. not_both (q x) (down x y (all_among (λ z. order x z ≡ Less) xs y below later) passes) fails))

  -- In ascending order the first that fails stands at the place that counts those that pass.
  pub find_at_count : (xs : List K) → IsStrictlySortedBy order xs → find (λ x. not (q x)) xs ≡ slice_get xs (length (filter q xs))
  unfolding IsStrictlySortedBy
  find_at_count [] ascending = refl
  find_at_count (x ∷ xs) ascending =
      elim (q x) as (λ b. q x ≡ b → cond (not b) (Some x) (find (λ y. not (q y)) xs) ≡ slice_get (x ∷ xs) (length (cond b (x ∷ filter q xs) (filter q xs)))) [
        | true ↦ λ passes. find_at_count xs ascending.1
        | false ↦ λ fails. ap (λ kept. slice_get (x ∷ xs) (length kept)) (sym (filter_none q xs (none_later x xs ascending.0 fails)))
      ] refl

  one_on : (x : K) (xs : List K) (n : ℕ) → n ≤ length xs → option_or (before_place xs n) (Some x) ≡ slice_get (x ∷ xs) n
  one_on x xs zero within = refl
  one_on x xs (suc n) within =
      let there = slice_get-get_or xs n x (omega arith) in
      ap (λ found. option_or found (Some x)) (before_place-suc xs n ∙ there) ∙ sym there

  last_before_count : (xs : List K) → IsStrictlySortedBy order xs → find_last q xs ≡ before_place xs (length (filter q xs))
  unfolding IsStrictlySortedBy
  last_before_count [] ascending = refl
  last_before_count (x ∷ xs) ascending =
      elim (q x) as (λ b. q x ≡ b → option_or (find_last q xs) (cond b (Some x) None) ≡ before_place (x ∷ xs) (length (cond b (x ∷ filter q xs) (filter q xs)))) [
        | true ↦ λ passes. ap (λ found. option_or found (Some x)) (last_before_count xs ascending.1) ∙ one_on x xs (length (filter q xs)) (length-filter-le q xs) ∙
            sym (before_place-suc (x ∷ xs) (length (filter q xs)))
        | false ↦ λ fails. let none = none_later x xs ascending.0 fails in
            ap (λ found. option_or found None) (find_last_none q xs none) ∙ ap (λ kept. before_place (x ∷ xs) (length kept)) (sym (filter_none q xs none))
      ] refl

  -- The last that passes stands just before that place.
  pub find_before_count : (xs : List K) → IsStrictlySortedBy order xs → find q (reverse xs) ≡ before_place xs (length (filter q xs))
  find_before_count xs ascending = find-reverse q xs ∙ last_before_count xs ascending

module _ {K : Type 0} {order : K → K → Ordering} (total : IsTotalOrder order) where
  -- To be before a key holds downwards.
  pub lt-IsDownward : (key : K) → IsDownward order (λ other. is_lt (order other key))
  lt-IsDownward key x y below passes = ap is_lt (total.trans x y key below (less_is (order y key) passes))

  -- So does to be at or before it.
  pub le-IsDownward : (key : K) → IsDownward order (λ other. is_le (order other key))
  le-IsDownward key x y below passes = ap is_le (lt_le_trans total x y key below passes)

  module _ (xs : List K) (ascending : IsStrictlySortedBy order xs) where
    -- Of two places in an ascending list the earlier has the lesser key.
    pub less_by_place : (i j : ℕ) (x y : K) → slice_get xs i ≡ Some x → slice_get xs j ≡ Some y → i < j → order x y ≡ Less
    less_by_place i j x y at_i at_j earlier =
        (λ t. order (sym (get_or_from_slice_get xs i x x at_i) t) (sym (get_or_from_slice_get xs j y x at_j) t)) ∙ Less-from_sorted order xs i j x ascending earlier (slice_get_within xs j y at_j)

    -- A place that isn't earlier has no lesser key.
    pub le_by_place : (i j : ℕ) (x y : K) → slice_get xs i ≡ Some x → slice_get xs j ≡ Some y → i ≤ j → is_le (order x y) ≡ true
    le_by_place i j x y at_i at_j not_later = ⊎_elim
        (λ earlier. ap is_le (less_by_place i j x y at_i at_j earlier))
        (λ met.
        let e : i ≡ j = omega arith in
        let one : x ≡ y = same_Some x y (sym at_i ∙ ap (slice_get xs) e ∙ at_j) in
        ap (λ other. is_le (order x other)) (sym one) ∙ le_itself total x)
        (cases_lt i j)

    -- Before the key at a place stand as many as the place counts.
    pub below_at_place : (place : ℕ) (key : K) → slice_get xs place ≡ Some key → length (filter (λ other. is_lt (order other key)) xs) ≡ place
    below_at_place place key at =
        let within = slice_get_within xs place key at in
        length-filter_is (λ other. is_lt (order other key)) xs place (omega arith)
        (λ k x at_k before. ap is_lt (less_by_place k place x key at_k at before))
        (λ k x at_k after. lt_from_not_le total x key ∙ ap not (le_by_place place k key x at at_k after))

    -- And with the key itself one more.
    pub up_to_place : (place : ℕ) (key : K) → slice_get xs place ≡ Some key → length (filter (λ other. is_le (order other key)) xs) ≡ suc place
    up_to_place place key at =
        let within = slice_get_within xs place key at in
        length-filter_is (λ other. is_le (order other key)) xs (suc place) (omega arith)
        (λ k x at_k before. le_by_place k place x key at_k at (omega arith))
        (λ k x at_k after. le_from_not_lt total x key ∙ ap not (ap is_lt (less_by_place place k key x at at_k (omega arith))))
