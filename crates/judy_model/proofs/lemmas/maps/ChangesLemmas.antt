-- What an insert, a write and a delete change in a map, and what they leave.
use Rattle.std.proofs.Common.{◌≡◌, ◌≢◌, ℕ, ◌+◌, ◌-◌, true, false, cond, if◌then◌else◌, IsTrue, is_some, Some, None, unwrap_or, sym, refl, ap, ◌∙◌, Ordering}
use Rattle.std.specs.Ordering.{eq_by_cmp, is_eq}
use Rattle.std.specs.Cmp.{IsTotalOrder, tied_itself}
use Rattle.std.specs.FinMap.{FinMap, IsAntisymmetric, contains_key, get, insert, remove, len, get-insert, get-remove, get_tied, len-insert, len-remove, same_map}
use Rattle.std.proofs.lemmas.Bool.{cond-true, cond-false, false_from_ne_true}
use Rattle.judy_model.specs.Arrays.{ins, write, del}
use Rattle.judy_model.proofs.lemmas.orders.Orders.{equal_is, same_from_tie}

-- To insert a key that it doesn't contain adds it with the value 0.
pub ins_absent : {K : Type 0} {order : K → K → Ordering} (map : FinMap order ℕ) (key : K) → contains_key map key ≡ false → ins map key ≡ insert map key 0
ins_absent map key absent = cond-false (contains_key map key) map (insert map key 0) absent

module _ {K : Type 0} {order : K → K → Ordering} (total : IsTotalOrder order) where
  tie_itself : (key : K) → eq_by_cmp order key key ≡ true
  tie_itself key = ap is_eq (tied_itself total key)

  module _ (map : FinMap order ℕ) (key : K) where
    get_at_tie : (other : K) → eq_by_cmp order other key ≡ true → get map other ≡ get map key
    get_at_tie other tied = sym (get_tied total map other key (equal_is (order other key) tied))

    -- What an insert leaves at each key.
    pub get-ins : (other : K) → get (ins map key) other ≡ cond (eq_by_cmp order other key) (Some (unwrap_or (get map key) 0)) (get map other)
    get-ins other =
        elim (get map key) as (λ found. get map key ≡ found → get (cond (is_some found) map (insert map key 0)) other ≡ cond (eq_by_cmp order other key) (Some (unwrap_or found 0)) (get map other)) [
          | None ↦ λ absent. get-insert total map key 0 other
          | Some value ↦ λ held. elim (eq_by_cmp order other key) as (λ b. eq_by_cmp order other key ≡ b → get map other ≡ cond b (Some value) (get map other)) [
            | true ↦ λ tied. get_at_tie other tied ∙ held
            | false ↦ λ apart. refl
          ] refl
        ] refl

    -- After an insert the key is there, with the value that it had, or else 0.
    pub get-ins_same : get (ins map key) key ≡ Some (unwrap_or (get map key) 0)
    get-ins_same = get-ins key ∙ cond-true (eq_by_cmp order key key) (Some (unwrap_or (get map key) 0)) (get map key) (tie_itself key)

    -- After a write the key is there, with the value written.
    pub get-write_same : (value : ℕ) → get (write map key value) key ≡ Some value
    get-write_same value = get-insert total map key value key ∙ cond-true (eq_by_cmp order key key) (Some value) (get map key) (tie_itself key)

    -- After a delete the key is not there.
    pub get-del_same : get (del map key) key ≡ None
    get-del_same = get-remove total map key key ∙ cond-true (eq_by_cmp order key key) None (get map key) (tie_itself key)

    -- An insert adds one key where the map doesn't contain it.
    pub len-ins : len (ins map key) ≡ (if contains_key map key then len map else len map + 1)
    len-ins =
        elim (contains_key map key) as (λ b. contains_key map key ≡ b → len (cond b map (insert map key 0)) ≡ cond b (len map) (len map + 1)) [
          | true ↦ λ held. refl
          | false ↦ λ absent. len-insert total map key 0 ∙ cond-false (contains_key map key) (len map) (len map + 1) absent
        ] refl

    -- So does a write.
    pub len-write : (value : ℕ) → len (write map key value) ≡ (if contains_key map key then len map else len map + 1)
    len-write value = len-insert total map key value

    -- A delete takes one away where the map contains it.
    pub len-del : len (del map key) ≡ (if contains_key map key then len map - 1 else len map)
    len-del = len-remove total map key

    module _ (same : IsAntisymmetric order) where
      apart_from : (other : K) → key ≢ other → eq_by_cmp order other key ≡ false
      apart_from other differ = false_from_ne_true (eq_by_cmp order other key) (λ tied. differ (sym (same_from_tie same other key tied)))

      -- An insert leaves the values of the other keys.
      pub get-ins_other : (other : K) → key ≢ other → get (ins map key) other ≡ get map other
      get-ins_other other differ = get-ins other ∙ cond-false (eq_by_cmp order other key) (Some (unwrap_or (get map key) 0)) (get map other) (apart_from other differ)

      -- So does a write.
      pub get-write_other : (value : ℕ) (other : K) → key ≢ other → get (write map key value) other ≡ get map other
      get-write_other value other differ = get-insert total map key value other ∙ cond-false (eq_by_cmp order other key) (Some value) (get map other) (apart_from other differ)

      -- So does a delete.
      pub get-del_other : (other : K) → key ≢ other → get (del map key) other ≡ get map other
      get-del_other other differ = get-remove total map key other ∙ cond-false (eq_by_cmp order other key) None (get map other) (apart_from other differ)

      -- To write through the slot that an insert gave is to insert the value.
      pub write-ins : (value : ℕ) → write (ins map key) key value ≡ insert map key value
      write-ins value = same_map total same (insert (ins map key) key value) (insert map key value) (λ other.
          get-insert total (ins map key) key value other
          ∙ elim (eq_by_cmp order other key) as (λ b. eq_by_cmp order other key ≡ b → cond b (Some value) (get (ins map key) other) ≡ cond b (Some value) (get map other)) [
            | true ↦ λ tied. refl
            | false ↦ λ apart. get-ins other ∙ cond-false (eq_by_cmp order other key) (Some (unwrap_or (get map key) 0)) (get map other) apart
          ] refl
          ∙ sym (get-insert total map key value other))

      -- The later of two writes at a key is the one that lasts.
      pub write-write : (before value : ℕ) → write (write map key before) key value ≡ write map key value
      write-write before value = same_map total same (insert (insert map key before) key value) (insert map key value) (λ other.
          get-insert total (insert map key before) key value other
          ∙ elim (eq_by_cmp order other key) as (λ b. eq_by_cmp order other key ≡ b → cond b (Some value) (get (insert map key before) other) ≡ cond b (Some value) (get map other)) [
            | true ↦ λ tied. refl
            | false ↦ λ apart. get-insert total map key before other ∙ cond-false (eq_by_cmp order other key) (Some before) (get map other) apart
          ] refl
          ∙ sym (get-insert total map key value other))

      -- To delete a key that the map doesn't contain changes nothing.
      pub del_absent : get map key ≡ None → del map key ≡ map
      del_absent absent = same_map total same (remove map key) map (λ other.
          get-remove total map key other
          ∙ elim (eq_by_cmp order other key) as (λ b. eq_by_cmp order other key ≡ b → cond b None (get map other) ≡ get map other) [
            | true ↦ λ tied. sym (get_at_tie other tied ∙ absent)
            | false ↦ λ apart. refl
          ] refl)
