-- Arrays: what the changes of their groups make of them.
use Rattle.std.proofs.Common.{◌≡◌, ℕ, ◌+◌, ◌-◌, ◌<◌, ◌≤◌, ◌==◌, cond, List, length, get_or, set, Option, Some, None, is_some, Result, Ok, Err}
use Rattle.std.proofs.Common.{IsOk, IfOk, OnOk, IfErr, MutBor, IsTrue, ◌↔◌, eq-eqb, refl, sym, ap, ◌∙◌, subst, ◌⊎◌, inl, inr, ⊎_elim, arith}
use Rattle.std.specs.FinMap.{FinMap, get, insert, remove, empty, len, len-empty, len-insert, len-remove, get-empty, empty_of_len}
use Rattle.std.specs.Borrow.{name_if_ok}
use borrow.Follows.Closed.{read_of}
use Rattle.std.proofs.lemmas.Bool.{false≢true}
use Rattle.std.proofs.lemmas.Bool.Decides.{Decides-eqb}
use Rattle.std.proofs.lemmas.List.{get_or_default}
use Rattle.judy_model.specs.Keys.{word_order, byte_order}
use Rattle.judy_model.specs.KeyLengths.{IsBytesKeyTo}
use Rattle.judy_model.specs.Arrays.{ArrayOf, with_map, empty_array, del}
use Rattle.judy_model.proofs.lemmas.maps.TableLemmas.{bytes_keys-all, byte_order_total, byte_order_same, get-table, get-table_bad, table_none}
use Rattle.judy_model.proofs.lemmas.maps.ChangesLemmas.{del_absent}
use Rattle.judy_hs.specs.declared.error.HsError.{HsError}
use Rattle.judy_hs.specs.declared.group.Inside.{Inside}
use Rattle.judy_hs.specs.Groups.{Group, none, short, long, IsInside, IsEmptyGroup, value_inside, group_with, group_with_key, group_without}
use Rattle.judy_hs.specs.Keyed.{Keyed, no_keys, group_at, in_keyed, in_place, IsSpot, IsNewSpot, keyed_with, with_group, added_keyed, keyed_without, without_group}
use Rattle.judy_hs.specs.Parts.{part_of}
use Rattle.judy_hs.specs.Kept.{value_of, map_of, array_of, IsKeyed, IsHs}
use Rattle.judy_hs.specs.Slots.{with_value}
use Rattle.judy_hs.proofs.GroupSteps.{some_none}
use Rattle.judy_hs.proofs.GroupChanges.{group-write, group-add, group-remove, value-inside, inside-some, empty-none, set_within}
use Rattle.judy_hs.proofs.TwoLevels.{get_or-set_here, same_or_not}
use Rattle.judy_hs.proofs.KeyedSteps.{IsMade, IsPut, made-set, made-without, made-gone, put-group}

-- A key that a slice of bytes holds.
pub is_key_of : (longest : ℕ) (key : List ℕ) → ((i : ℕ) → get_or key i 0 < 256) → length key ≤ longest → IsBytesKeyTo longest key
is_key_of longest key small within = record {
  is_byte_string = λ k d below. subst (λ byte. byte < 256) (get_or_default key k 0 d below) (small k);
  within_limit = within;
}

module _ (hash_of : List ℕ → ℕ) (longest : ℕ) where
  -- ---- no keys

  no_value : (key : List ℕ) → value_of hash_of no_keys key ≡ None
  no_value key = ap (λ found. in_place no_keys found (part_of hash_of key) key) (get-empty word_order (length key))

  pub map_of-none : map_of hash_of longest no_keys ≡ empty
  map_of-none = table_none (bytes_keys-all longest) (value_of hash_of no_keys) (λ key is_key. no_value key)

  no_lead : {A : Type 0} (word place : ℕ) → get no_keys.lengths.map word ≡ Some place → A
  no_lead word place e = some_none place (sym e ∙ get-empty word_order word)

  pub IsHs-none : (limit : ℕ) → 1 ≤ limit → limit ≤ 4294967295 → IsHs hash_of longest limit 0 no_keys
  IsHs-none limit some most = record {
    is_keyed = record {
      within = λ key_length place e. no_lead key_length place e;
      apart = λ one other place p q. no_lead one place p;
      groups = λ key_length place e. no_lead key_length place e;
    };
    counted = sym (ap len map_of-none ∙ len-empty byte_order ℕ);
    within_limit = omega arith;
    holds_some = some;
    limit_fits = most;
  }

  pub array_of-none : (limit : ℕ) → array_of hash_of longest limit no_keys ≡ empty_array limit
  array_of-none limit = ap (λ (map : FinMap byte_order ℕ). record { limit = limit; map = map }) map_of-none

  module _ (keyed : Keyed) (key : List ℕ) where
    -- The map answers as the groups do, and for what is no key nothing.
    pub get_is : IsBytesKeyTo longest key → get (map_of hash_of longest keyed) key ≡ value_of hash_of keyed key
    get_is is_key = get-table (bytes_keys-all longest) (value_of hash_of keyed) key is_key

    -- So it answers as they do under the word by which its group finds the key.
    pub get_part : IsBytesKeyTo longest key → (part : ℕ) → part ≡ part_of hash_of key → get (map_of hash_of longest keyed) key ≡ in_keyed keyed part key
    get_part is_key part is = get_is is_key ∙ ap (λ (word : ℕ). in_keyed keyed word key) (sym is)

    pub get_long : longest < length key → get (map_of hash_of longest keyed) key ≡ None
    get_long over = get-table_bad (bytes_keys-all longest) (value_of hash_of keyed) key (λ is. absurd (omega (arith, is.within_limit)))

    -- ---- where a key stands

    module _ (is_key : IsBytesKeyTo longest key) (place : ℕ) (inside : Inside) (spot : IsSpot keyed (part_of hash_of key) key place inside) where
      pub spot-value : get (map_of hash_of longest keyed) key ≡ value_inside (group_at keyed place) inside key
      spot-value = get_is is_key ∙ ap (λ found. in_place keyed found (part_of hash_of key) key) spot.leads ∙ value-inside hash_of key is_key.is_byte_string (group_at keyed place) inside spot.is_inside

      pub spot-some : (value : ℕ) × (get (map_of hash_of longest keyed) key ≡ Some value)
      spot-some =
          let found = inside-some hash_of key is_key.is_byte_string (group_at keyed place) inside spot.is_inside in
          (found.0, get_is is_key ∙ ap (λ found. in_place keyed found (part_of hash_of key) key) spot.leads ∙ found.1)

  -- ---- a key put in

  module _ (keyed : Keyed) (is : IsKeyed hash_of longest keyed) (key : List ℕ) (is_key : IsBytesKeyTo longest key) where
    put_key : (place : ℕ) (inside : Inside) (found : Option ℕ) → get keyed.lengths.map (length key) ≡ found → in_place keyed found (part_of hash_of key) key ≡ None →
        IsNewSpot keyed (part_of hash_of key) key found place inside
        → IsPut hash_of longest keyed is key is_key (added_keyed keyed (part_of hash_of key) key found place inside) place inside
    put_key place inside None leads absent new =
        subst (λ i. IsPut hash_of longest keyed is key is_key (with_group keyed (part_of hash_of key) key place) place i) (sym new.1)
        (put-group hash_of longest keyed is key is_key place leads new.0)
    put_key place inside (Some held) leads absent new =
        let group = group_at keyed held in
        let grown = group-add hash_of key is_key.is_byte_string group inside (is.groups (length key) held leads) absent new.2 in
        record {
          made = made-set hash_of longest keyed is key is_key held leads new.1 (group_with_key group (part_of hash_of key) key inside) 0 grown.changed;
          spot = record {
            leads = leads ∙ ap (λ (p : ℕ). Some p) (sym new.0);
            within = set_within keyed.groups held place (group_with_key group (part_of hash_of key) key inside) new.0 new.1;
            is_inside = subst (λ p. IsInside (get_or (set keyed.groups held (group_with_key group (part_of hash_of key) key inside)) p none) (part_of hash_of key) key inside) (sym new.0)
                (subst (λ (g : Group). IsInside g (part_of hash_of key) key inside) (sym (get_or-set_here keyed.groups held
                (group_with_key group (part_of hash_of key) key inside) none new.1)) grown.there);
          };
        }

    pub added : (place : ℕ) (inside : Inside) → value_of hash_of keyed key ≡ None → IsNewSpot keyed (part_of hash_of key) key (get keyed.lengths.map (length key)) place inside →
        IsPut hash_of longest keyed is key is_key (added_keyed keyed (part_of hash_of key) key (get keyed.lengths.map (length key)) place inside) place inside
    added place inside absent new = put_key place inside (get keyed.lengths.map (length key)) refl absent new

  module _ (limit count : ℕ) (keyed : Keyed) (is : IsHs hash_of longest limit count keyed) (key : List ℕ) (is_key : IsBytesKeyTo longest key) where
    -- ---- a value written

    module _ (place : ℕ) (inside : Inside) (spot : IsSpot keyed (part_of hash_of key) key place inside) (value : ℕ) where
      made_with : IsMade hash_of longest (keyed_with keyed place inside key value) (insert (map_of hash_of longest keyed) key value)
      made_with = made-set hash_of longest keyed is.is_keyed key is_key place spot.leads spot.within (group_with (group_at keyed place) inside key value) value
          (group-write hash_of key is_key.is_byte_string (group_at keyed place) inside value (is.is_keyed.groups (length key) place spot.leads) spot.is_inside)

      pub array-written : array_of hash_of longest limit (keyed_with keyed place inside key value) ≡ with_value (array_of hash_of longest limit keyed) key value
      array-written = ap (λ (map : FinMap byte_order ℕ). record { limit = limit; map = map }) made_with.map_is

      pub IsHs-written : IsHs hash_of longest limit count (keyed_with keyed place inside key value)
      IsHs-written =
          let held = spot-some keyed key is_key place inside spot in
          let same : len (map_of hash_of longest (keyed_with keyed place inside key value)) ≡ len (map_of hash_of longest keyed) =
          ap len made_with.map_is ∙ len-insert byte_order_total (map_of hash_of longest keyed) key value ∙
          ap (λ (found : Option ℕ). cond (is_some found) (len (map_of hash_of longest keyed)) (len (map_of hash_of longest keyed) + 1)) held.1 in
          record {
            is_keyed = made_with.is;
            counted = is.counted ∙ sym same;
            within_limit = is.within_limit;
            holds_some = is.holds_some;
            limit_fits = is.limit_fits;
          }

    -- ---- a key taken out

    module _ (place : ℕ) (inside : Inside) (spot : IsSpot keyed (part_of hash_of key) key place inside) where
      pub made_kept : (IsEmptyGroup (group_without (group_at keyed place) (part_of hash_of key) inside key) → ⊥) →
          IsMade hash_of longest (keyed_without keyed place (part_of hash_of key) inside key) (remove (map_of hash_of longest keyed) key)
      made_kept used = made-without hash_of longest keyed is.is_keyed key is_key place spot.leads spot.within (group_without (group_at keyed place) (part_of hash_of key) inside key)
          (group-remove hash_of key is_key.is_byte_string (group_at keyed place) inside (is.is_keyed.groups (length key) place spot.leads) spot.is_inside) used

      pub made_emptied : IsEmptyGroup (group_without (group_at keyed place) (part_of hash_of key) inside key) →
          IsMade hash_of longest (without_group keyed (length key) place) (remove (map_of hash_of longest keyed) key)
      made_emptied gone = made-gone hash_of longest keyed is.is_keyed key is_key place spot.leads (λ other o.
          sym ((group-remove hash_of key is_key.is_byte_string (group_at keyed place) inside (is.is_keyed.groups (length key) place spot.leads) spot.is_inside).step.others other o)
          ∙ empty-none (group_without (group_at keyed place) (part_of hash_of key) inside key) gone (part_of hash_of other) other)

    -- The groups without the key are an array of one key less.
    pub IsHs-removed : (after : Keyed) → IsMade hash_of longest after (remove (map_of hash_of longest keyed) key) → (value : ℕ) → get (map_of hash_of longest keyed) key ≡ Some value →
        IsHs hash_of longest limit (count - 1) after
    IsHs-removed after made value held =
        let within = is.within_limit in
        let less : len (map_of hash_of longest after) ≡ len (map_of hash_of longest keyed) - 1 =
        ap len made.map_is ∙ len-remove byte_order_total (map_of hash_of longest keyed) key ∙ ap (λ (found : Option ℕ). cond (is_some found)
        (len (map_of hash_of longest keyed) - 1) (len (map_of hash_of longest keyed))) held in
        record {
          is_keyed = made.is;
          counted = ap (λ n. n - 1) is.counted ∙ sym less;
          within_limit = omega arith;
          holds_some = is.holds_some;
          limit_fits = is.limit_fits;
        }

-- A count of no keys is that of the empty map.
pub empty_iff : (map : FinMap byte_order ℕ) (count : ℕ) → count ≡ len map → IsTrue (count == 0) ↔ (map ≡ empty)
empty_iff map count counted = (
  λ e. empty_of_len map (sym counted ∙ (Decides-eqb count 0).0 e),
  λ e. eq-eqb count 0 (counted ∙ ap len e ∙ len-empty byte_order ℕ),
)

-- ---- a delete

empty_or_not : (map : FinMap word_order ℕ) → (map ≡ empty) ⊎ ((map ≡ empty) → ⊥)
empty_or_not map = ⊎_elim (λ none. inl (empty_of_len map none)) (λ some. inr (λ e. some (ap len e ∙ len-empty word_order ℕ))) (same_or_not (len map) 0)

group_or_not : (group : Group) → IsEmptyGroup group ⊎ (IsEmptyGroup group → ⊥)
group_or_not none = inl tt
group_or_not (short words) = empty_or_not words.map
group_or_not (long group) = empty_or_not group.hashes.map

module _ (hash_of : List ℕ → ℕ) (longest limit count : ℕ) (keyed : Keyed) (is : IsHs hash_of longest limit count keyed) (key : List ℕ) (is_key : IsBytesKeyTo longest key)
    (place : ℕ) (inside : Inside) (spot : IsSpot keyed (part_of hash_of key) key place inside) (after : Keyed)
    (kept : (IsEmptyGroup (group_without (group_at keyed place) (part_of hash_of key) inside key) → ⊥) → after ≡ keyed_without keyed place (part_of hash_of key) inside key)
    (emptied : IsEmptyGroup (group_without (group_at keyed place) (part_of hash_of key) inside key) → after ≡ without_group keyed (length key) place) where
  removed_made : IsMade hash_of longest after (remove (map_of hash_of longest keyed) key)
  removed_made = ⊎_elim
      (λ gone. subst (λ k. IsMade hash_of longest k (remove (map_of hash_of longest keyed) key)) (sym (emptied gone))
      (made_emptied hash_of longest limit count keyed is key is_key place inside spot gone))
      (λ used. subst (λ k. IsMade hash_of longest k (remove (map_of hash_of longest keyed) key)) (sym (kept used)) (made_kept hash_of longest limit count keyed is key is_key place inside spot used))
      (group_or_not (group_without (group_at keyed place) (part_of hash_of key) inside key))

  pub IsHs-deleted : IsHs hash_of longest limit (count - 1) after
  IsHs-deleted = let held = spot-some hash_of longest keyed key is_key place inside spot in IsHs-removed hash_of longest limit count keyed is key is_key after removed_made held.0 held.1

  pub array-deleted : array_of hash_of longest limit after ≡ with_map (array_of hash_of longest limit keyed) (del (map_of hash_of longest keyed) key)
  array-deleted = ap (λ (map : FinMap byte_order ℕ). record { limit = limit; map = map }) removed_made.map_is

-- A key that isn't there isn't deleted.
pub not_deleted : (array : ArrayOf byte_order) (key : List ℕ) → get array.map key ≡ None → array ≡ with_map array (del array.map key)
not_deleted array key absent = ap (with_map array) (sym (del_absent byte_order_total array.map key byte_order_same absent))

-- A count of keys of which there is one is at least 1.
pub counts_one : (map : FinMap byte_order ℕ) (key : List ℕ) (value count : ℕ) → get map key ≡ Some value → count ≡ len map → 1 ≤ count
counts_one map key value count held counted = ⊎_elim
    (λ (none : count ≡ 0). some_none value (sym held ∙ ap (λ (m : FinMap byte_order ℕ). get m key) (empty_of_len map (sym counted ∙ none)) ∙ get-empty byte_order key))
    (λ some. omega arith)
    (same_or_not count 0)

-- ---- an insert

-- A result that is Ok lends alike where it lends alike for each value.
pub ok_only : {D : Type 0} (r : Result (MutBor ℕ) HsError) → IsOk r → (one two : ℕ → D) (x y : D) → ((w : ℕ) → one w ≡ two w)
    → read_of (name_if_ok (λ (b : MutBor ℕ). b.ghost_name) r) one x ≡ read_of (name_if_ok (λ (b : MutBor ℕ). b.ghost_name) r) two y
ok_only (Ok slot) is one two x y e = λ t. read_of (name_if_ok {E = HsError} (λ (b : MutBor ℕ). b.ghost_name) (Ok slot)) (λ w. e w t) x
ok_only (Err error) is one two x y e = absurd (false≢true is)

pub on_ok : (r : Result (MutBor ℕ) HsError) (P : Type 0) → P → OnOk r P
on_ok (Ok slot) P p = p
on_ok (Err error) P p = tt

pub if_err : (r : Result (MutBor ℕ) HsError) (P : HsError → Type 0) → IsOk r → IfErr r P
if_err (Ok slot) P is = tt
if_err (Err error) P is = absurd (false≢true is)

pub if_ok : (r : Result (MutBor ℕ) HsError) (P Q : MutBor ℕ → Type 0) → ((slot : MutBor ℕ) → P slot → Q slot) → IfOk r P → IfOk r Q
if_ok (Ok slot) P Q f h = f slot h
if_ok (Err error) P Q f h = tt
