-- The map in which pairs are written, one after the other, whatever their order.
use Rattle.std.proofs.Common.{◌≡◌, ℕ, true, false, cond, T, List, [], ◌∷◌, Option, None, Some, ◌⊎◌, inl, inr, ⊎_elim, refl, sym, ap, ◌∙◌, Less}
use Rattle.std.specs.Ordering.{is_lt, is_eq, eq_by_cmp, ordering_reverse}
use Rattle.std.specs.Cmp.{tied_itself}
use Rattle.std.specs.FinMap.{FinMap, empty, insert, get, entries, from_sorted, find, is_sorted, get-empty, get-insert, get-from_sorted, entries-from_sorted, same_map}
use Rattle.std.specs.FinMap.Entries.{below_all}
use Rattle.std.proofs.lemmas.Option.{same_Some, none-some}
use Rattle.judy_model.specs.Keys.{byte_order}
use Rattle.judy_model.proofs.lemmas.maps.Ascending.{Among}
use Rattle.judy_model.proofs.lemmas.maps.Inserts.{get-insert_itself}
use Rattle.judy_model.proofs.lemmas.orders.Orders.{same_from_tie, less_is}
use Rattle.judy_model.proofs.lemmas.maps.TableLemmas.{byte_order_total, byte_order_same}
use Rattle.judy_model.proofs.lemmas.maps.Tests.{left_of, right_of, holds_test}
use Rattle.judy_sl.specs.Sorted.{with_pairs}

-- ---- pairs in order

-- One that is below all is below each.
below-each : (key : List ℕ) (pairs : List (List ℕ × ℕ)) (other : List ℕ × ℕ) → T (below_all byte_order key pairs) → Among pairs other → byte_order key other.0 ≡ Less
below-each key [] other below here = absurd here
below-each key (pair ∷ pairs) other below here = ⊎_elim
    (λ e. ap (λ (p : List ℕ × ℕ). byte_order key p.0) e ∙ less_is _ (holds_test _ (left_of (is_lt (byte_order key pair.0)) (below_all byte_order key pairs) below)))
    (λ later. below-each key pairs other (right_of (is_lt (byte_order key pair.0)) (below_all byte_order key pairs) below) later)
    here

module _ (all : List (List ℕ × ℕ)) where
  -- Each of them is found,
  found-there : T (is_sorted byte_order all) → (key : List ℕ) (value : ℕ) → Among all (key, value) → find byte_order key all ≡ Some value
  found-there = by all
    where
      by : (pairs : List (List ℕ × ℕ)) → T (is_sorted byte_order pairs) → (key : List ℕ) (value : ℕ) → Among pairs (key, value) → find byte_order key pairs ≡ Some value
      by [] sorted key value here = absurd here
      by (pair ∷ pairs) sorted key value here = ⊎_elim
          (λ e. ap (λ (p : List ℕ × ℕ). find byte_order p.0 (pair ∷ pairs)) e
          ∙ ap (λ r. cond (is_eq r) (Some pair.1) (find byte_order pair.0 pairs)) (tied_itself byte_order_total pair.0)
          ∙ ap (λ (p : List ℕ × ℕ). Some p.1) (sym e))
          (λ later.
          let below = below-each pair.0 pairs (key, value) (left_of (below_all byte_order pair.0 pairs) (is_sorted byte_order pairs) sorted) later in
          ap (λ r. cond (is_eq r) (Some pair.1) (find byte_order key pairs)) (byte_order_total.antisymm key pair.0 ∙ ap ordering_reverse below)
          ∙ by pairs (right_of (below_all byte_order pair.0 pairs) (is_sorted byte_order pairs) sorted) key value later)
          here

  -- and what is found is one of them.
  found-among : (key : List ℕ) (value : ℕ) → find byte_order key all ≡ Some value → Among all (key, value)
  found-among = by all
    where
      by : (pairs : List (List ℕ × ℕ)) (key : List ℕ) (value : ℕ) → find byte_order key pairs ≡ Some value → Among pairs (key, value)
      by [] key value is = cc
      by (pair ∷ pairs) key value is =
          elim (eq_by_cmp byte_order key pair.0) as (λ b. eq_by_cmp byte_order key pair.0 ≡ b → cond b (Some pair.1) (find byte_order key pairs) ≡ Some value → Among (pair ∷ pairs) (key, value)) [
            | true ↦ λ tied found. let keys = same_from_tie byte_order_same key pair.0 tied in let values = same_Some pair.1 value found in inl (λ i. (keys i, sym values i))
            | false ↦ λ apart found. inr (by pairs key value found)
          ] refl is

-- ---- pairs that are written

-- What the map holds then was there before, or is one of the pairs.
written-only : (pairs : List (List ℕ × ℕ)) (map : FinMap byte_order ℕ) (key : List ℕ) (value : ℕ) → get (with_pairs map pairs) key ≡ Some value → Among pairs (key, value) ⊎ (get map key ≡ Some value)
written-only [] map key value is = inr is
written-only (pair ∷ pairs) map key value is = ⊎_elim
    (λ later. inl (inr later))
    (λ held.
    elim (eq_by_cmp byte_order key pair.0) as (λ b. eq_by_cmp byte_order key pair.0 ≡ b → cond b (Some pair.1) (get map key) ≡ Some value →
    Among (pair ∷ pairs) (key, value) ⊎ (get map key ≡ Some value)) [
      | true ↦ λ tied found. let keys = same_from_tie byte_order_same key pair.0 tied in let values = same_Some pair.1 value found in inl (inl (λ i. (keys i, sym values i)))
      | false ↦ λ apart found. inr found
    ] refl (sym (get-insert byte_order_total map pair.0 pair.1 key) ∙ held))
    (written-only pairs (insert map pair.0 pair.1) key value is)

module _ (all : List (List ℕ × ℕ)) (sorted : T (is_sorted byte_order all)) where
  -- A pair of a list in order stays where others of it are written,
  written-kept : (pairs : List (List ℕ × ℕ)) → ((pair : List ℕ × ℕ) → Among pairs pair → Among all pair) → (map : FinMap byte_order ℕ) (key : List ℕ) (value : ℕ) →
      Among all (key, value) → get map key ≡ Some value → get (with_pairs map pairs) key ≡ Some value
  written-kept [] inside map key value here is = is
  written-kept (pair ∷ pairs) inside map key value here is =
      written-kept pairs (λ other later. inside other (inr later)) (insert map pair.0 pair.1) key value here
      (get-insert byte_order_total map pair.0 pair.1 key
      ∙ elim (eq_by_cmp byte_order key pair.0) as (λ b. eq_by_cmp byte_order key pair.0 ≡ b → cond b (Some pair.1) (get map key) ≡ Some value) [
        | true ↦ λ tied.
            let keys = same_from_tie byte_order_same key pair.0 tied in
            sym (found-there all sorted pair.0 pair.1 (inside pair (inl refl))) ∙ ap (λ k. find byte_order k all) (sym keys) ∙ found-there all sorted key value here
        | false ↦ λ apart. is
      ] refl)

  -- and those that are written are there.
  written-there : (pairs : List (List ℕ × ℕ)) → ((pair : List ℕ × ℕ) → Among pairs pair → Among all pair) → (map : FinMap byte_order ℕ) (key : List ℕ) (value : ℕ) →
      Among pairs (key, value) → get (with_pairs map pairs) key ≡ Some value
  written-there [] inside map key value here = absurd here
  written-there (pair ∷ pairs) inside map key value here = ⊎_elim
      (λ e.
      written-kept pairs (λ other later. inside other (inr later)) (insert map pair.0 pair.1) key value (inside (key, value) (inl e))
      (ap (λ (p : List ℕ × ℕ). get (insert map pair.0 pair.1) p.0) e ∙ get-insert_itself byte_order_total map pair.0 pair.1 ∙ ap (λ (p : List ℕ × ℕ). Some p.1) (sym e)))
      (λ later. written-there pairs (λ other there. inside other (inr there)) (insert map pair.0 pair.1) key value later)
      here

  -- Where all pairs of a list in order are written, and no others, they are the entries.
  pub entries-written : (pairs : List (List ℕ × ℕ)) → ((pair : List ℕ × ℕ) → Among all pair → Among pairs pair) → ((pair : List ℕ × ℕ) → Among pairs pair → Among all pair) →
      entries (with_pairs empty pairs) ≡ all
  entries-written pairs each inside =
      ap entries (same_map byte_order_total byte_order_same (with_pairs empty pairs) (from_sorted all) (λ key. by key (find byte_order key all) refl ∙ sym (get-from_sorted byte_order all key sorted)))
      ∙ entries-from_sorted byte_order all sorted
    where
      none : (key : List ℕ) → find byte_order key all ≡ None → (held : Option ℕ) → get (with_pairs empty pairs) key ≡ held → held ≡ None
      none key missing None is = refl
      none key missing (Some value) is = ⊎_elim
          (λ here. absurd (none-some value (sym missing ∙ found-there all sorted key value (inside (key, value) here))))
          (λ held. absurd (none-some value (sym (get-empty byte_order key) ∙ held)))
          (written-only pairs empty key value is)

      by : (key : List ℕ) (found : Option ℕ) → find byte_order key all ≡ found → get (with_pairs empty pairs) key ≡ found
      by key (Some value) is = written-there pairs inside empty key value (each (key, value) (found-among all key value is))
      by key None is = none key is (get (with_pairs empty pairs) key) refl
