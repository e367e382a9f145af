-- Keys that are taken out of what a handle of strings holds. A handle that holds no array has no key in a range, and none with a prefix.
use Rattle.std.proofs.Common.{◌≡◌, ℕ, Bool, List, true≢false, sym, ap, ◌∙◌, is_le, inl, inr}
use Rattle.std.specs.Prelude.{Result, Ok, Err, IfOk, OnOk, OnErr}
use Rattle.std.specs.FinMap.{len}
use Rattle.std.specs.declared.alloc.AllocError.{AllocError}
use Rattle.judy_model.specs.Keys.{byte_order}
use Rattle.judy_model.specs.Arrays.{ArrayOf, empty_array, with_map}
use Rattle.judy_model.specs.Counts.{count}
use Rattle.judy_model.specs.Prefixes.{begins_with, beginning_with, without_prefix}
use Rattle.judy_model.specs.Ranges.{outside}
use Rattle.judy_string_sets.proofs.EndFacts.{NoneInside, part_none, others_all, count_range, outside_range, part_prefix, others_prefix}
use Rattle.judy_c.specs.StringRemovals.{removed_number, IsRemoved}
use Rattle.judy_c.proofs.StringHandles.{nothing_there}

-- what is answered of an array's keys that were taken out, or of one that stayed without memory
pub removed_so : (same : Type 0) (removed : Result ℕ AllocError) (before after others : ArrayOf byte_order) (count answer : ℕ) →
    IfOk removed (λ taken. taken ≡ count) → OnOk removed (after ≡ others) → OnErr removed (after ≡ before) → (after ≡ before → same) → answer ≡ removed_number removed
    → IsRemoved count others same answer after
removed_so same (Ok taken) before after others count answer counted left stays back told = inl (record { counted = told ∙ counted; left = left })
removed_so same (Err error) before after others count answer counted left stays back told = inr (record { told = told; stays = back stays })

module _ (array : ArrayOf byte_order) (is : array ≡ empty_array 4294967295) where
  none_inside : (from : List ℕ) (within : List ℕ → Bool) → NoneInside array.map from within
  none_inside from within key held = absurd (true≢false (sym held ∙ sym (nothing_there array key is)))

  pub none_counted : (from to : List ℕ) → 0 ≡ count array.map from to
  none_counted from to = sym (sym (count_range array.map from to) ∙ part_none array.map from (λ key. is_le (byte_order key to)) (none_inside from (λ key. is_le (byte_order key to))))

  pub none_taken_out : (from to : List ℕ) → array ≡ with_map array (outside array.map from to)
  none_taken_out from to = ap (with_map array) (sym (sym (outside_range array.map from to)
      ∙ others_all array.map from (λ key. is_le (byte_order key to)) (none_inside from (λ key. is_le (byte_order key to)))))

  pub none_begins : (prefix : List ℕ) → 0 ≡ len (beginning_with array.map prefix)
  none_begins prefix = sym (sym (ap len (part_prefix array.map prefix)) ∙ part_none array.map prefix (begins_with prefix) (none_inside prefix (begins_with prefix)))

  pub none_of_prefix_taken : (prefix : List ℕ) → array ≡ with_map array (without_prefix array.map prefix)
  none_of_prefix_taken prefix = ap (with_map array)
      (sym (sym (others_prefix array.map prefix) ∙ others_all array.map prefix (begins_with prefix) (none_inside prefix (begins_with prefix))))
