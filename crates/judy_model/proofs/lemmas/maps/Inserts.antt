-- How inserts into a map and writes at a key of it combine.
use Rattle.std.proofs.Common.{◌≡◌, ℕ, false, cond, not, ◌&&◌, ◌==◌, Option, Some, None, is_some, ap, ◌∙◌}
use Rattle.std.specs.declared.cmp.Ordering.{Ordering}
use Rattle.std.specs.Ordering.{is_eq}
use Rattle.std.specs.Cmp.{IsTotalOrder, tied_itself}
use Rattle.std.specs.FinMap.{FinMap, get, insert, len, get-insert}
use Rattle.judy_model.specs.Arrays.{ArrayOf, ins, is_full}

module _ {K : Type 0} {order : K → K → Ordering} (total : IsTotalOrder order) where
  -- A key is found with the value that was just written.
  pub get-insert_itself : (m : FinMap order ℕ) (key : K) (value : ℕ) → get (insert m key value) key ≡ Some value
  get-insert_itself m key value = get-insert total m key value key ∙ ap (λ r. cond (is_eq r) (Some value) (get m key)) (tied_itself total key)

module _ {K : Type 0} {order : K → K → Ordering} where
  -- An insert leaves a map that holds the key as it is.
  pub ins_present : (m : FinMap order ℕ) (key : K) (value : ℕ) → get m key ≡ Some value → ins m key ≡ m
  ins_present m key value e = ap (λ (found : Option ℕ). cond (is_some found) m (insert m key 0)) e

  -- An insert of an absent key puts it in with the value 0.
  pub ins_absent : (m : FinMap order ℕ) (key : K) → get m key ≡ None → ins m key ≡ insert m key 0
  ins_absent m key e = ap (λ (found : Option ℕ). cond (is_some found) m (insert m key 0)) e

  -- No array is full for a key that it holds.
  pub is_full_present : (a : ArrayOf order) (key : K) (value : ℕ) → get a.map key ≡ Some value → is_full a key ≡ false
  is_full_present a key value e = ap (λ (found : Option ℕ). not (is_some found) && (len a.map == a.limit)) e

  -- For a key that it doesn't hold an array is full at its limit.
  pub is_full_absent : (a : ArrayOf order) (key : K) → get a.map key ≡ None → is_full a key ≡ (len a.map == a.limit)
  is_full_absent a key e = ap (λ (found : Option ℕ). not (is_some found) && (len a.map == a.limit)) e
