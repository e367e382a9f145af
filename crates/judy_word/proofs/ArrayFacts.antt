-- Arrays over a tree as arrays of the model: the empty one, one of one pair, and one with a value written through a slot.
use Rattle.std.proofs.Common.{◌≡◌, ℕ, ◌<◌, ◌^◌, [], ◌∷◌, Bool, true, false, not, Option, Some, None, Result, Ok, Err, IfOk, is_some, unwrap_or, option_and_then, MutBor, refl, sym, ap, ◌∙◌, arith}
use Rattle.std.specs.Cmp.{nat_cmp_total}
use Rattle.std.specs.Option.{option_copied_mut, ghost_name_of}
use Rattle.std.specs.FinMap.{FinMap, get, contains_key, empty, insert, get-empty, nat_cmp-IsAntisymmetric}
use borrow.Follows.Closed.{read_of}
use Rattle.judy_model.specs.Keys.{word_order}
use Rattle.judy_model.specs.Arrays.{ArrayOf, with_map, ins, write}
use Rattle.judy_model.proofs.lemmas.maps.SortedMaps.{from_sorted-nil}
use Rattle.judy_model.proofs.lemmas.maps.ChangesLemmas.{write-ins, get-ins_same}
use Rattle.judy_word.specs.Held.{Held, map_in, array_in, nothing_held, IsHeld}
use Rattle.judy_word.specs.Held as held
use Rattle.judy_word.specs.Writes as writes
use Rattle.judy_word.specs.WordArrays.{array_of, seen_as, no_keys, with_value}
use Rattle.judy_query.specs.Maps.{map_of}
use Rattle.judy_word.proofs.InsertionFacts.{new_absent}
use Rattle.judy_word.proofs.MapFacts.{get-value, map_of-with_pair, map_of-written}

-- No tree is the array without keys.
pub nothing-empty : (limit : ℕ) → seen_as (nothing_held limit) ≡ no_keys limit
nothing-empty limit = ap (λ (map : FinMap word_order ℕ). record (no_keys limit) { map = map }) (from_sorted-nil word_order)

-- One pair is the empty map with that pair.
module _ (key value : ℕ) (fits : key < 256 ^ 8) where
  pub one-written : map_of ((key, value) ∷ []) ≡ write empty key value
  one-written =
      map_of-with_pair 1 (256 ^ 8) key value [] tt fits refl (λ none. absurd (omega (arith, none)))
      ∙ ap (λ (map : FinMap word_order ℕ). insert map key value) (from_sorted-nil word_order)

  pub one-new : value ≡ 0 → map_of ((key, value) ∷ []) ≡ ins empty key
  one-new zero =
      one-written ∙ ap (insert empty key) zero ∙ sym (new_absent empty key 0 (ap is_some (get-empty word_order key)))

module _ (array : Held) (is : IsHeld 1 array) (key : ℕ) (present : is_some (get (map_in array) key) ≡ true) where
  -- A value that is written in the tree is written in the array.
  pub array-written : (value : ℕ) → seen_as (held.with_value array key value) ≡ with_value (seen_as array) key value
  array-written value =
      ap (λ (map : FinMap word_order ℕ). record (seen_as array) { map = map })
      (map_of-written 1 (256 ^ 8) key value array.tree.pairs refl is.node.map (ap is_some (sym (get-value 1 (256 ^ 8) array.tree.pairs is.node.map key)) ∙ present))

-- A key that wasn't added was there.
pub kept-there : (added held : Bool) → added ≡ false → added ≡ not held → held ≡ true
kept-there added true kept same = refl
kept-there added false kept same = sym kept ∙ same

-- What a key that is there becomes in the tree, it becomes in the array.
module _ (old new : Held) (is : IsHeld 1 old) (key value : ℕ) where
  pub put-seen : {E : Type 0} (result : Result Bool E) → IfOk result (λ added. added ≡ not (contains_key (map_in old) key)) →
      IfOk result (λ added. added ≡ false → new ≡ held.with_value old key value) → IfOk result (λ added. added ≡ false → seen_as new ≡ with_value (seen_as old) key value)
  put-seen (Ok added) answer present = λ kept. ap seen_as (present kept) ∙ array-written old is key (kept-there added (contains_key (map_in old) key) kept answer) value
  put-seen (Err refused) answer present = tt

-- Where the key was put in before.
module _ (old new : Held) (is : IsHeld 1 new) (key : ℕ) (inserted : array_in new ≡ with_map (array_in old) (ins (map_in old) key)) where
  pub inserted-value : get (map_in new) key ≡ get (ins (map_in old) key) key
  inserted-value = ap (λ (array : ArrayOf word_order). get array.map key) inserted

  -- It is there.
  pub inserted-there : contains_key (map_in new) key ≡ true
  inserted-there = ap is_some (inserted-value ∙ get-ins_same nat_cmp_total (map_in old) key)

  -- The value that is written then is that of the insert.
  pub inserted-written : (value : ℕ) → array_in (held.with_value new key value) ≡ writes.with_value (array_in old) key value
  inserted-written value =
      ap array_of (array-written new is key inserted-there value)
      ∙ ap (λ (array : ArrayOf word_order). writes.with_value array key value) inserted
      ∙ ap (λ (map : FinMap word_order ℕ). record { limit = old.limit; map = map }) (write-ins nat_cmp_total (map_in old) key nat_cmp-IsAntisymmetric value)

-- What has a value is there.
pub value-there : {value : ℕ} {found : Option ℕ} → Some value ≡ found → is_some found ≡ true
value-there some = ap is_some (sym some)

-- Two loans that may be none are equal where they end alike for each value that may be left.
lent_if : {D : Type 0} (result : Option (MutBor ℕ)) (first second : ℕ → D) (none : D) → ((before : ℕ) → option_copied_mut result ≡ Some before → (left : ℕ) → first left ≡ second left) →
    read_of (ghost_name_of result) first none ≡ read_of (ghost_name_of result) second none
lent_if None first second none same = refl
lent_if (Some slot) first second none same = λ t. read_of (ghost_name_of (Some slot)) (λ left. same slot.now refl left t) none

-- A key that was found, and has a value, is there.
found_there : (map : FinMap word_order ℕ) (found : Option ℕ) (other key value : ℕ) → key ≡ unwrap_or found other → option_and_then (get map) found ≡ Some value → contains_key map key ≡ true
found_there map None other key value same is = cc
found_there map (Some at) other key value same is = ap is_some (ap (get map) same ∙ is)

-- The slot of a key that was found lends the array as it lends the tree.
pub lent_slot : (array : Held) (is : IsHeld 1 array) (result : Option (MutBor ℕ)) (found : Option ℕ) (other key : ℕ)
    → key ≡ unwrap_or found other → option_copied_mut result ≡ option_and_then (get (map_in array)) found
    → read_of (ghost_name_of result) (λ left. seen_as (held.with_value array key left)) (seen_as array) ≡ read_of (ghost_name_of result) (with_value (seen_as array) key) (seen_as array)
lent_slot array is result found other key is_key is_value =
    lent_if result _ _ _ (λ before some. array-written array is key (found_there (map_in array) found other key before is_key (sym is_value ∙ some)))
