-- Maps that are made of a list of entries, and the entries of a map in another order of the keys.
use Rattle.std.proofs.Common.{◌≡◌, ℕ, suc, ◌+◌, Bool, true, false, cond, T, List, [], ◌∷◌, length, Some, None, is_some, refl, sym, ap, subst, ◌∙◌, arith, All, Less, Equal, Greater}
use Rattle.std.specs.declared.cmp.Ordering.{Ordering}
use Rattle.std.specs.Ordering.{is_lt, is_eq, eq_by_cmp}
use Rattle.std.specs.Cmp.{IsTotalOrder, tied_itself}
use Rattle.std.specs.FinMap.{FinMap, IsAntisymmetric, find, put, is_sorted, empty, from_sorted, from_entries, entries, get, len, get-entries, get-from_entries, get-from_sorted}
use Rattle.std.specs.FinMap.{entries-from_sorted, entries-insert, len-entries, len-empty, len-insert, same_map}
use Rattle.std.specs.FinMap.Entries.{below_all, by_order}
use Rattle.std.proofs.lemmas.List.Elements.{All-nil, All-cons, All-head, All-tail}
use Rattle.judy_model.proofs.lemmas.maps.Tests.{left_of, right_of}

apart : (r : Ordering) → T (is_lt r) → is_eq r ≡ false
apart Less h = refl
apart Equal h = absurd h
apart Greater h = absurd h

same_test : (a b : Bool) → (a ≡ true → b ≡ true) → (b ≡ true → a ≡ true) → a ≡ b
same_test true b to from = sym (to refl)
same_test false true to from = from refl
same_test false false to from = refl

is_Equal : (r : Ordering) → is_eq r ≡ true → r ≡ Equal
is_Equal Less h = absurd cc
is_Equal Equal h = refl
is_Equal Greater h = absurd cc

more_by_one : {m n : ℕ} → m ≡ n → m + 1 ≡ suc n
more_by_one e = omega arith

no_pairs : {A : Type 0} (pairs : List A) → length pairs ≡ 0 → pairs ≡ []
no_pairs [] none = refl
no_pairs (pair ∷ pairs) none = absurd (omega arith)

module _ {K : Type 0} (one other : K → K → Ordering) (one_total : IsTotalOrder one) (one_same : IsAntisymmetric one) (other_total : IsTotalOrder other) (other_same : IsAntisymmetric other) where
  -- Two orders that tell all keys apart find a key alike.
  same_ties : (x y : K) → eq_by_cmp one x y ≡ eq_by_cmp other x y
  same_ties x y = same_test (eq_by_cmp one x y) (eq_by_cmp other x y)
      (λ e. ap (λ z. is_eq (other x z)) (sym (one_same x y (is_Equal (one x y) e))) ∙ ap is_eq (tied_itself other_total x))
      (λ e. ap (λ z. is_eq (one x z)) (sym (other_same x y (is_Equal (other x y) e))) ∙ ap is_eq (tied_itself one_total x))

  find-alike : (key : K) (pairs : List (K × ℕ)) → find one key pairs ≡ find other key pairs
  find-alike key [] = refl
  find-alike key (pair ∷ pairs) = λ t. cond (same_ties key pair.0 t) (Some pair.1) (find-alike key pairs t)

  -- A key below all others stands among them in neither order.
  find-below : (key : K) (pairs : List (K × ℕ)) → T (below_all one key pairs) → find other key pairs ≡ None
  find-below key [] below = refl
  find-below key (pair ∷ pairs) below =
      sym (ap (λ b. cond b (Some pair.1) (find other key pairs)) (same_ties key pair.0)) ∙ ap (λ b. cond b (Some pair.1) (find other key pairs))
      (apart (one key pair.0) (left_of _ _ below)) ∙ find-below key pairs (right_of _ _ below)

  -- A map has as many keys as the list in order that it is made of.
  pub len-from_entries : (pairs : List (K × ℕ)) → T (is_sorted one pairs) → len (from_entries {R = other} pairs) ≡ length pairs
  len-from_entries [] sorted = len-empty other ℕ
  len-from_entries (pair ∷ pairs) sorted =
      let rest : len (from_entries {R = other} pairs) ≡ length pairs = len-from_entries pairs (right_of _ _ sorted) in
      let new : get (from_entries {R = other} pairs) pair.0 ≡ None = get-from_entries other_total pairs pair.0 ∙ find-below pair.0 pairs (left_of _ _ sorted) in
      len-insert other_total (from_entries pairs) pair.0 pair.1
      ∙ ap (λ found. cond (is_some found) (len (from_entries {R = other} pairs)) (len (from_entries {R = other} pairs) + 1)) new
      ∙ more_by_one rest

  -- To make a map of the entries of another, and one in the first order of its entries, gives these again.
  pub entries-made_twice : (pairs : List (K × ℕ)) → T (is_sorted one pairs) → entries (from_entries {R = one} (entries (from_entries {R = other} pairs))) ≡ pairs
  entries-made_twice pairs sorted =
      let made = from_entries {R = other} pairs in
      let is : from_entries {R = one} (entries made) ≡ from_sorted pairs = same_map one_total one_same _ _ (λ key.
      get-from_entries one_total (entries made) key ∙ find-alike key (entries made) ∙ sym (get-entries made key) ∙ get-from_entries other_total pairs key ∙
      sym (find-alike key pairs) ∙ sym (get-from_sorted one pairs key sorted)) in
      ap entries is ∙ entries-from_sorted one pairs sorted

  -- A map that is made of another's entries in the other order is that map.
  pub made_twice : (m : FinMap other ℕ) → from_entries {R = other} (entries (from_entries {R = one} (entries m))) ≡ m
  made_twice m =
      let made = from_entries {R = one} (entries m) in
      same_map other_total other_same _ _ (λ key.
      get-from_entries other_total (entries made) key ∙ sym (find-alike key (entries made)) ∙ sym (get-entries made key) ∙ get-from_entries one_total (entries m) key ∙
      find-alike key (entries m) ∙ sym (get-entries m key))

module _ {K : Type 0} {order : K → K → Ordering} (total : IsTotalOrder order) (same : IsAntisymmetric order) where
  -- A map that is made of entries in order has these.
  pub entries-made : (pairs : List (K × ℕ)) → T (is_sorted order pairs) → entries (from_entries {R = order} pairs) ≡ pairs
  entries-made pairs sorted =
      ap entries (same_map total same (from_entries pairs) (from_sorted pairs) (λ key. get-from_entries total pairs key ∙ sym (get-from_sorted order pairs key sorted))) ∙
      entries-from_sorted order pairs sorted

  -- A map is made of its entries.
  pub made_of_entries : (m : FinMap order ℕ) → from_entries {R = order} (entries m) ≡ m
  made_of_entries m = same_map total same _ _ (λ key. get-from_entries total (entries m) key ∙ sym (get-entries m key))

module _ {K : Type 0} {order : K → K → Ordering} (total : IsTotalOrder order) (P : K × ℕ → Type 0) (P-over : (key : K) (before after : ℕ) (other : K) →
    P (key, before) → P (other, after) → P (key, after)) where
  All-put : (key : K) (value : ℕ) (pairs : List (K × ℕ)) → P (key, value) → All P pairs → All P (put order key value pairs)
  All-put key value [] here all = All-cons P (key, value) [] here (All-nil P)
  All-put key value (pair ∷ pairs) here all =
      let first = All-head P pair pairs all in
      let rest = All-tail P pair pairs all in
      elim (order key pair.0) as (λ r. All P (by_order r ((key, value) ∷ pair ∷ pairs) ((pair.0, value) ∷ pairs) (pair ∷ put order key value pairs))) [
        | Less ↦ All-cons P (key, value) (pair ∷ pairs) here all
        | Equal ↦ All-cons P (pair.0, value) pairs (P-over pair.0 pair.1 value key first here) rest
        | Greater ↦ All-cons P pair (put order key value pairs) first (All-put key value pairs here rest)
      ]

  -- What holds of each entry of a list holds of those of the map that is made of it.
  pub All-made : (pairs : List (K × ℕ)) → All P pairs → All P (entries (from_entries {R = order} pairs))
  All-made [] all = subst (All P) (sym (no_pairs (entries (empty {X = ℕ} {R = order})) (sym (len-entries (empty {X = ℕ} {R = order})) ∙ len-empty order ℕ))) (All-nil P)
  All-made (pair ∷ pairs) all =
      subst (All P) (sym (entries-insert total (from_entries pairs) pair.0 pair.1)) (All-put pair.0 pair.1 (entries (from_entries pairs)) (All-head P pair pairs all)
      (All-made pairs (All-tail P pair pairs all)))
