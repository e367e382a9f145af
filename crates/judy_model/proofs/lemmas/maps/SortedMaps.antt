-- The map of pairs whose keys strictly ascend: what it holds, and what a write, an insert or a delete in the
-- pairs makes of it.
use Rattle.std.proofs.Common.{◌≡◌, Bool, true, false, cond, not, T, List, [], length, None, refl, sym, ap, ◌∙◌}
use Rattle.std.specs.declared.cmp.Ordering.{Ordering}
use Rattle.std.specs.Ordering.{is_eq, eq_by_cmp}
use Rattle.std.specs.Cmp.{IsTotalOrder, alike_right, eq_by_cmp_equiv, Equal-is}
use Rattle.std.specs.List as list
use Rattle.std.specs.FinMap.{FinMap, IsAntisymmetric, find, put, is_sorted, empty, from_sorted, get, insert, remove, len, entries-from_sorted, entries-insert, get-from_sorted}
use Rattle.std.specs.FinMap.{get-remove, get_tied, len-entries, empty_of_len, same_entries_map, same_map}
use Rattle.std.specs.FinMap.Entries.{where_key, is_sorted-put, is_sorted-where_key, find-where_key}

-- A choice by the opposite test.
turned : {X : Type 0} (b : Bool) (x y : X) → cond b x y ≡ cond (not b) y x
turned true x y = refl
turned false x y = refl

module _ {K X : Type 0} (order : K → K → Ordering) where
  -- It has as many keys as there are pairs.
  pub len-from_sorted : (pairs : List (K × X)) → T (is_sorted order pairs) → len (from_sorted {R = order} pairs) ≡ length pairs
  len-from_sorted pairs h = len-entries _ ∙ ap length (entries-from_sorted order pairs h)

  -- The map of no pairs is empty.
  pub from_sorted-nil : ◌≡◌ {A = FinMap order X} (from_sorted []) empty
  from_sorted-nil = empty_of_len _ (len-from_sorted [] tt)

module _ {K X : Type 0} (order : K → K → Ordering) (total : IsTotalOrder order) where
  -- A put into the map is a put into its pairs, which stay in order.
  pub insert-from_sorted : (pairs : List (K × X)) (key : K) (value : X) → T (is_sorted order pairs) → insert (from_sorted {R = order} pairs) key value ≡ from_sorted (put order key value pairs)
  insert-from_sorted pairs key value h =
      same_entries_map _ _ (entries-insert total _ key value ∙ ap (put order key value) (entries-from_sorted order pairs h) ∙
      sym (entries-from_sorted order (put order key value pairs) (is_sorted-put order total key value pairs h)))

module _ {K X : Type 0} {order : K → K → Ordering} (total : IsTotalOrder order) (same : IsAntisymmetric order) where
  -- A key that the map doesn't hold is removed from it in vain.
  pub remove_absent : (m : FinMap order X) (key : K) → get m key ≡ None → remove m key ≡ m
  remove_absent m key absent = same_map total same _ _ (λ q.
      get-remove total m key q
      ∙ elim (eq_by_cmp order q key) as (λ b. eq_by_cmp order q key ≡ b → cond b None (get m q) ≡ get m q) [
        | true ↦ λ e. sym absent ∙ get_tied total m q key ((Equal-is (order q key)).0 e)
        | false ↦ λ e. refl
      ] refl)

  -- A delete from the map is one from its pairs.
  pub remove-from_sorted : (pairs : List (K × X)) (key : K) → T (is_sorted order pairs) → remove (from_sorted {R = order} pairs) key ≡
      from_sorted (where_key order (λ other. not (eq_by_cmp order key other)) pairs)
  remove-from_sorted pairs key h = same_map total same _ _ (λ q.
      get-remove total _ key q
      ∙ ap (cond (eq_by_cmp order q key) None) (get-from_sorted order pairs q h)
      ∙ ap (λ b. cond b None (find order q pairs)) ((eq_by_cmp_equiv total).symm q key)
      ∙ turned (eq_by_cmp order key q) None (find order q pairs)
      ∙ sym (find-where_key order (λ x. not (eq_by_cmp order key x)) q (λ x tied. ap (λ r. not (is_eq r)) (sym (alike_right total q x key tied))) pairs)
      ∙ sym (get-from_sorted order _ q (is_sorted-where_key order (λ x. not (eq_by_cmp order key x)) pairs h)))
