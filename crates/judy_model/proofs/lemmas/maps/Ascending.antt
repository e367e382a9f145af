-- Lists in strictly ascending order: their members, what `find` finds in them, and what a filter keeps.
use Rattle.std.proofs.Common.{◌≡◌, ℕ, zero, suc, ◌<◌, Bool, true, false, cond, ◌||◌, ◌⊎◌, inl, inr, ⊎_elim, List, [], ◌∷◌, reverse, length, filter, find, slice_get, Contains}
use Rattle.std.proofs.Common.{get_or, Option, Some, None, sym, refl, ap, ◌∙◌, subst, arith, true≢false, Ordering, Less, is_le}
use Rattle.std.specs.Ordering.{eq_by_cmp, is_eq}
use Rattle.std.specs.List.{list_any, AllByRecursion}
use Rattle.std.specs.List.Sorted.{IsStrictlySortedBy}
use Rattle.std.specs.Cmp.{IsTotalOrder, tied_itself}
use Rattle.std.specs.FinMap.{IsAntisymmetric}
use Rattle.std.specs.Option.{option_or}
use Rattle.std.proofs.lemmas.Grind.{reverse_onto}
use Rattle.std.proofs.lemmas.List.Folds.{find-append}
use Rattle.std.proofs.lemmas.Option.{same_Some}
use Rattle.judy_model.proofs.lemmas.orders.Orders.{not_both, le_itself, same_from_tie}

-- ---- members

-- The key stands somewhere in the list.
abbrev pub Among : {K : Type 0} → List K → K → Type 0
Among [] key = ⊥
Among (x ∷ xs) key = (key ≡ x) ⊎ Among xs key

module _ {K : Type 0} where
  -- What holds of each element of a list holds of each key among it.
  pub all_among : (P : K → Type 0) (xs : List K) (key : K) → AllByRecursion P xs → Among xs key → P key
  all_among P [] key all here = absurd here
  all_among P (x ∷ xs) key all here = ⊎_elim (λ e. subst P (sym e) all.0) (λ later. all_among P xs key all.1 later) here

  -- What holds of each key among a list holds of each of its elements.
  pub all_from_among : (P : K → Type 0) (xs : List K) → ((key : K) → Among xs key → P key) → AllByRecursion P xs
  all_from_among P [] each = tt
  all_from_among P (x ∷ xs) each = (each x (inl refl), all_from_among P xs (λ key later. each key (inr later)))

  -- The key at a place is among the list.
  pub Among-slice_get : (xs : List K) (place : ℕ) (key : K) → slice_get xs place ≡ Some key → Among xs key
  Among-slice_get [] place key e = cc
  Among-slice_get (x ∷ xs) zero key e = inl (sym (same_Some x key e))
  Among-slice_get (x ∷ xs) (suc place) key e = inr (Among-slice_get xs place key e)

  -- Each key among a list has a place.
  pub place_among : (xs : List K) (key : K) → Among xs key → (place : ℕ) × (slice_get xs place ≡ Some key)
  place_among [] key here = absurd here
  place_among (x ∷ xs) key here = ⊎_elim (λ e. (0, ap Some (sym e))) (λ later. let rest = place_among xs key later in (suc rest.0, rest.1)) here

  -- `Contains` says the same as `Among`.
  pub Contains-from_among : (xs : List K) (key : K) → Among xs key → Contains xs key
  Contains-from_among [] key here = absurd here
  Contains-from_among (x ∷ xs) key here = ⊎_elim
      (λ e. (0, omega arith, sym e))
      (λ later. let rest = Contains-from_among xs key later in (suc rest.0, (let within : rest.0 < length xs = rest.1 in omega arith), rest.2))
      here

  among_by_place : (xs : List K) (key : K) (place : ℕ) → place < length xs → get_or xs place key ≡ key → Among xs key
  among_by_place [] key place within is = let never : ⊥ = omega arith in absurd never
  among_by_place (x ∷ xs) key zero within is = inl (sym is)
  among_by_place (x ∷ xs) key (suc place) within is = inr (among_by_place xs key place (omega arith) is)

  -- The way back.
  pub among_from_Contains : (xs : List K) (key : K) → Contains xs key → Among xs key
  among_from_Contains xs key h = among_by_place xs key h.0 h.1 h.2

  -- A filter keeps the members that pass.
  pub Among-filter : (p : K → Bool) (xs : List K) (key : K) → Among xs key → p key ≡ true → Among (filter p xs) key
  Among-filter p [] key here passes = absurd here
  Among-filter p (x ∷ xs) key here passes =
      elim (p x) as (λ b. p x ≡ b → Among (cond b (x ∷ filter p xs) (filter p xs)) key) [
        | true ↦ λ is. ⊎_elim (λ e. inl e) (λ later. inr (Among-filter p xs key later passes)) here
        | false ↦ λ is. ⊎_elim (λ e. not_both (p key) passes (ap p e ∙ is)) (λ later. Among-filter p xs key later passes) here
      ] refl

  -- And no others.
  pub among_from_filter : (p : K → Bool) (xs : List K) (key : K) → Among (filter p xs) key → Among xs key × (p key ≡ true)
  among_from_filter p [] key here = absurd here
  among_from_filter p (x ∷ xs) key here =
      elim (p x) as (λ b. p x ≡ b → Among (cond b (x ∷ filter p xs) (filter p xs)) key → Among (x ∷ xs) key × (p key ≡ true)) [
        | true ↦ λ is kept. ⊎_elim (λ e. (inl e, ap p e ∙ is)) (λ later. let rest = among_from_filter p xs key later in (inr rest.0, rest.1)) kept
        | false ↦ λ is kept. let rest = among_from_filter p xs key kept in (inr rest.0, rest.1)
      ] refl here

  module _ {order : K → K → Ordering} (total : IsTotalOrder order) (same : IsAntisymmetric order) where
    -- The test by the order finds just the members.
    pub Among-list_any : (xs : List K) (key : K) → list_any (eq_by_cmp order key) xs ≡ true → Among xs key
    Among-list_any [] key found = absurd (true≢false (sym found))
    Among-list_any (x ∷ xs) key found =
        elim (eq_by_cmp order key x) as (λ b. eq_by_cmp order key x ≡ b → (b || list_any (eq_by_cmp order key) xs) ≡ true → Among (x ∷ xs) key) [
          | true ↦ λ tied is. inl (same_from_tie same key x tied)
          | false ↦ λ apart is. inr (Among-list_any xs key is)
        ] refl found

    eq_by_cmp_itself : (key : K) → eq_by_cmp order key key ≡ true
    eq_by_cmp_itself key = ap is_eq (tied_itself total key)

    -- The way back.
    pub list_any-from_among : (xs : List K) (key : K) → Among xs key → list_any (eq_by_cmp order key) xs ≡ true
    list_any-from_among [] key here = absurd here
    list_any-from_among (x ∷ xs) key here =
        elim (eq_by_cmp order key x) as (λ b. eq_by_cmp order key x ≡ b → (b || list_any (eq_by_cmp order key) xs) ≡ true) [
          | true ↦ λ tied. refl
          | false ↦ λ apart. ⊎_elim (λ e. not_both (eq_by_cmp order key x) (ap (λ other. eq_by_cmp order key other) (sym e) ∙ eq_by_cmp_itself key) apart)
              (λ later. list_any-from_among xs key later) here
        ] refl

-- ---- what `find` finds

-- Two tests that agree find the same.
pub find_agree : {K : Type 0} {p q : K → Bool} → ((x : K) → p x ≡ q x) → (xs : List K) → find p xs ≡ find q xs
find_agree agree [] = refl
find_agree agree (x ∷ xs) = λ i. cond (agree x i) (Some x) (find_agree agree xs i)

-- The last element that passes the test.
abbrev pub find_last : {K : Type 0} → (K → Bool) → List K → Option K
find_last p [] = None
find_last p (x ∷ xs) = option_or (find_last p xs) (cond (p x) (Some x) None)

-- To look for the first in the list turned round is to look for the last.
pub find-reverse : {K : Type 0} (p : K → Bool) (xs : List K) → find p (reverse xs) ≡ find_last p xs
find-reverse p [] = refl
find-reverse p (x ∷ xs) = ap (find p) (reverse_onto xs x []) ∙ find-append p (reverse xs) (x ∷ []) ∙ ap (λ found. option_or found (cond (p x) (Some x) None)) (find-reverse p xs)

-- The answer is the least member that passes the test, or there is none.
abbrev pub LeastAmong : {K : Type 0} → (K → K → Ordering) → (K → Bool) → List K → Option K → Type 0
LeastAmong {K} order p xs None = (key : K) → Among xs key → p key ≡ false
LeastAmong {K} order p xs (Some least) = Among xs least × (p least ≡ true) × ((key : K) → Among xs key → p key ≡ true → is_le (order least key) ≡ true)

-- The greatest, likewise.
abbrev pub GreatestAmong : {K : Type 0} → (K → K → Ordering) → (K → Bool) → List K → Option K → Type 0
GreatestAmong order p xs answer = LeastAmong (λ left right. order right left) p xs answer

module _ {K : Type 0} {order : K → K → Ordering} (total : IsTotalOrder order) (p : K → Bool) where
  past_first : (x : K) (xs : List K) (answer : Option K) → p x ≡ false → LeastAmong order p xs answer → LeastAmong order p (x ∷ xs) answer
  past_first x xs None fails none = λ key here. ⊎_elim (λ e. ap p e ∙ fails) (λ later. none key later) here
  past_first x xs (Some least) fails some = (inr some.0, some.1, λ key here passes. ⊎_elim (λ e. not_both (p key) passes (ap p e ∙ fails)) (λ later. some.2 key later passes) here)

  -- In ascending order the first element that passes is the least that does.
  pub find_least : (xs : List K) → IsStrictlySortedBy order xs → LeastAmong order p xs (find p xs)
  unfolding IsStrictlySortedBy
  find_least [] ascending = λ key here. absurd here
  find_least (x ∷ xs) ascending =
      elim (p x) as (λ b. p x ≡ b → LeastAmong order p (x ∷ xs) (cond b (Some x) (find p xs))) [
        | true ↦ λ passes. (
          inl refl,
          passes,
          λ key here _. ⊎_elim (λ e. ap (λ other. is_le (order x other)) e ∙ le_itself total x) (λ later. ap is_le (all_among (λ other. order x other ≡ Less) xs key ascending.0 later)) here,
        )
        | false ↦ λ fails. past_first x xs (find p xs) fails (find_least xs ascending.1)
      ] refl

  before_last : (x : K) (xs : List K) (found : Option K) → AllByRecursion (λ other. order x other ≡ Less) xs → GreatestAmong order p xs found →
      GreatestAmong order p (x ∷ xs) (option_or found (cond (p x) (Some x) None))
  before_last x xs (Some greatest) below some = (
    inr some.0,
    some.1,
    λ key here passes. ⊎_elim
        (λ e. ap (λ other. is_le (order other greatest)) e ∙ ap is_le (all_among (λ other. order x other ≡ Less) xs greatest below some.0))
        (λ later. some.2 key later passes) here,
  )
  before_last x xs None below none =
      elim (p x) as (λ b. p x ≡ b → GreatestAmong order p (x ∷ xs) (cond b (Some x) None)) [
        | true ↦ λ passes. (inl refl, passes, λ key here kept. ⊎_elim (λ e. ap (λ other. is_le (order other x)) e ∙ le_itself total x) (λ later. not_both (p key) kept (none key later)) here)
        | false ↦ λ fails key here. ⊎_elim (λ e. ap p e ∙ fails) (λ later. none key later) here
      ] refl

  find_last_greatest : (xs : List K) → IsStrictlySortedBy order xs → GreatestAmong order p xs (find_last p xs)
  unfolding IsStrictlySortedBy
  find_last_greatest [] ascending = λ key here. absurd here
  find_last_greatest (x ∷ xs) ascending = before_last x xs (find_last p xs) ascending.0 (find_last_greatest xs ascending.1)

  -- In ascending order the last element that passes is the greatest that does.
  pub find_greatest : (xs : List K) → IsStrictlySortedBy order xs → GreatestAmong order p xs (find p (reverse xs))
  find_greatest xs ascending = subst (GreatestAmong order p xs) (sym (find-reverse p xs)) (find_last_greatest xs ascending)

-- ---- what a filter keeps

all_filtered : {K : Type 0} (P : K → Type 0) (p : K → Bool) (xs : List K) → AllByRecursion P xs → AllByRecursion P (filter p xs)
all_filtered P p xs all = all_from_among P (filter p xs) (λ key here. all_among P xs key all (among_from_filter p xs key here).0)

-- A filter of an ascending list ascends.
pub ascending-filter : {K : Type 0} (order : K → K → Ordering) (p : K → Bool) (xs : List K) → IsStrictlySortedBy order xs → IsStrictlySortedBy order (filter p xs)
unfolding IsStrictlySortedBy
ascending-filter order p [] ascending = tt
ascending-filter order p (x ∷ xs) ascending =
    elim (p x) as (λ b. IsStrictlySortedBy order (cond b (x ∷ filter p xs) (filter p xs))) [
      | true ↦ (all_filtered (λ other. order x other ≡ Less) p xs ascending.0, ascending-filter order p xs ascending.1)
      | false ↦ ascending-filter order p xs ascending.1
    ]
