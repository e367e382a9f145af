-- What is kept of a map by a test of its keys: which keys, and how many.
use Rattle.std.proofs.Common.{◌≡◌, ℕ, suc, ◌+◌, ◌≤◌, Bool, true, false, cond, not, List, [], ◌∷◌, map, length, filter, Option, None, inl, inr, ⊎_elim, refl, sym, ap, ◌∙◌, arith, Ordering}
use Rattle.std.specs.Cmp.{IsTotalOrder}
use Rattle.std.specs.FinMap.{FinMap, IsAntisymmetric, entries, entries_sorted, keys, len, retain_keys, from_sorted, same_map, get-entries, get-from_sorted, entries-from_sorted}
use Rattle.std.specs.FinMap.Entries.{where_key, is_sorted-where_key, find-where_key}
use Rattle.judy_model.proofs.lemmas.maps.Ascending.{Among}
use Rattle.judy_model.proofs.lemmas.maps.KeysLemmas.{length-keys}
use Rattle.judy_model.proofs.lemmas.maps.TwoMapsLemmas.{get-kept}

-- ---- lists and a test

module _ {K : Type 0} where
  -- What fails a test and what passes it are together all.
  pub halves : (p : K → Bool) (xs : List K) → length (filter (λ x. not (p x)) xs) + length (filter p xs) ≡ length xs
  halves p [] = refl
  halves p (x ∷ xs) =
      let rest = halves p xs in
      elim (p x) as (λ b. length (cond (not b) (x ∷ filter (λ y. not (p y)) xs) (filter (λ y. not (p y)) xs)) + length (cond b (x ∷ filter p xs) (filter p xs)) ≡ suc (length xs)) [
        | true ↦ omega (arith, rest)
        | false ↦ omega (arith, rest)
      ]

  -- Tests that agree keep the same.
  pub filter_alike : (p q : K → Bool) (xs : List K) → ((x : K) → p x ≡ q x) → filter p xs ≡ filter q xs
  filter_alike p q [] same = refl
  filter_alike p q (x ∷ xs) same = λ t. cond (same x t) (x ∷ filter_alike p q xs same t) (filter_alike p q xs same t)

  -- No more are kept than there are.
  kept-le : (p : K → Bool) (xs : List K) → length (filter p xs) ≤ length xs
  kept-le p xs = let all = halves p xs in omega (arith, all)

  -- Where each passes, as many are kept as there are.
  pub all_kept : (p : K → Bool) (xs : List K) → ((x : K) → Among xs x → p x ≡ true) → length (filter p xs) ≡ length xs
  all_kept p [] each = refl
  all_kept p (x ∷ xs) each = ap (λ b. length (cond b (x ∷ filter p xs) (filter p xs))) (each x (inl refl)) ∙ ap suc (all_kept p xs (λ y later. each y (inr later)))

  -- The way back.
  pub kept_all : (p : K → Bool) (xs : List K) → length (filter p xs) ≡ length xs → (x : K) → Among xs x → p x ≡ true
  kept_all p [] as_many x here = absurd here
  kept_all p (y ∷ xs) as_many x here =
      elim (p y) as (λ b. p y ≡ b → length (cond b (y ∷ filter p xs) (filter p xs)) ≡ suc (length xs) → p x ≡ true) [
        | true ↦ λ passes long. ⊎_elim (λ e. ap p e ∙ passes) (λ later. kept_all p xs (let n = long in omega (arith, n)) x later) here
        | false ↦ λ fails long. let few = kept-le p xs in absurd (omega (arith, few, long))
      ] refl as_many

-- ---- maps and a test

module _ {K : Type 0} (order : K → K → Ordering) where
  firsts : (p : K → Bool) (es : List (K × ℕ)) → map (λ e. e.0) (where_key order p es) ≡ filter p (map (λ e. e.0) es)
  firsts p [] = refl
  firsts p (e ∷ es) =
      elim (p e.0) as (λ b. map (λ e. e.0) (cond b (e ∷ where_key order p es) (where_key order p es)) ≡ cond b (e.0 ∷ filter p (map (λ e. e.0) es)) (filter p (map (λ e. e.0) es))) [
        | true ↦ ap (λ rest. e.0 ∷ rest) (firsts p es)
        | false ↦ firsts p es
      ]

module _ {K : Type 0} {order : K → K → Ordering} (total : IsTotalOrder order) (same : IsAntisymmetric order) where
  -- What is kept of the map of entries in order is the map of the entries kept.
  pub kept-from_sorted : (map : FinMap order ℕ) (p : K → Bool) → retain_keys map p ≡ from_sorted (where_key order p (entries map))
  kept-from_sorted map p =
      let up = is_sorted-where_key order p (entries map) (entries_sorted map) in
      same_map total same (retain_keys map p) (from_sorted (where_key order p (entries map))) (λ key.
      get-kept total same map p key
      ∙ ap (λ (found : Option ℕ). cond (p key) found None) (get-entries map key)
      ∙ sym (get-from_sorted order (where_key order p (entries map)) key up
      ∙ find-where_key order p key (λ other tied. ap p (sym (same key other tied))) (entries map)))

  pub entries-kept : (map : FinMap order ℕ) (p : K → Bool) → entries (retain_keys map p) ≡ where_key order p (entries map)
  entries-kept map p = ap entries (kept-from_sorted map p) ∙ entries-from_sorted order (where_key order p (entries map)) (is_sorted-where_key order p (entries map) (entries_sorted map))

  -- Its keys are those that pass.
  pub keys-kept : (m : FinMap order ℕ) (p : K → Bool) → keys (retain_keys m p) ≡ filter p (keys m)
  keys-kept m p = ap (map (λ e. e.0)) (entries-kept m p) ∙ firsts order p (entries m)

  -- So many they are.
  pub len-kept : (m : FinMap order ℕ) (p : K → Bool) → len (retain_keys m p) ≡ length (filter p (keys m))
  len-kept m p = sym (length-keys (retain_keys m p)) ∙ ap length (keys-kept m p)

  -- What fails and what passes are together all keys.
  pub len-halves : (m : FinMap order ℕ) (p : K → Bool) → len (retain_keys m p) + len (retain_keys m (λ key. not (p key))) ≡ len m
  len-halves m p =
      let passed = len-kept m p in
      let failed = len-kept m (λ key. not (p key)) in
      let all = halves p (keys m) in
      let long = length-keys m in
      omega (arith, passed, failed, all, long)
