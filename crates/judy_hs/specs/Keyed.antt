-- The groups of an array by the length of their keys.
use Rattle.std.specs.Prelude.{◌≡◌, ◌≢◌, ◌≤◌, ◌<◌, ℕ, List, [], length, get_or, slice_set, Option, Some, None, refl}
use Rattle.std.specs.Coded.{Coded, code_by, coded×, coded_list, coded_ℕ}
use Rattle.std.specs.FinMap.{get, insert, remove}
use Rattle.judy_model.specs.Keys.{word_order}
use Rattle.judy_model.specs.Arrays.{ArrayOf, array_code, with_map, empty_array}
use Rattle.judy_hs.specs.LongGroups.{put_at}
use Rattle.judy_hs.specs.Groups.{Group, none, group_code, in_group, chain_in, IsInside, IsNewInside, IsEmptyGroup, group_with, group_with_key, group_without, one_group, one_inside, words_of}
use Rattle.judy_hs.specs.declared.group.Inside.{Inside}

-- The array from lengths to the places of groups, and the groups.
pub record Keyed : Type 0 where
  pub lengths : ArrayOf word_order
  pub groups : List Group

-- It is stored as the pair of these.
abbrev pub keyed_code : Coded Keyed
keyed_code =
    code_by (ArrayOf word_order × List Group) (coded× (array_code coded_ℕ) (coded_list group_code)) (λ keyed. (keyed.lengths, keyed.groups))
    (λ pair. record { lengths = pair.0; groups = pair.1 }) (λ _. refl)

-- Without a key.
abbrev pub no_keys : Keyed
no_keys = record { lengths = empty_array 18446744073709551615; groups = [] }

-- The group at a place: none where the place is free or there is none.
abbrev pub group_at : Keyed → ℕ → Group
group_at keyed place = get_or keyed.groups place none

-- The value of a key under its part, by what its length leads to.
abbrev pub in_place : Keyed → Option ℕ → ℕ → List ℕ → Option ℕ
in_place keyed None part key = None
in_place keyed (Some place) part key = in_group (group_at keyed place) part key

-- The value of a key under its part.
abbrev pub in_keyed : Keyed → ℕ → List ℕ → Option ℕ
in_keyed keyed part key = in_place keyed (get keyed.lengths.map (length key)) part key

-- The place of the chain of a long key's hash, by what the key's length leads to.
abbrev pub chain_led : Keyed → Option ℕ → ℕ → Option ℕ
chain_led keyed None part = None
chain_led keyed (Some place) part = chain_in (group_at keyed place) part

-- The key stands in the group at the place.
pub record IsSpot (keyed : Keyed) (part : ℕ) (key : List ℕ) (place : ℕ) (inside : Inside) : Type 0 where
  pub leads : get keyed.lengths.map (length key) ≡ Some place
  pub within : place < length keyed.groups
  pub is_inside : IsInside (group_at keyed place) part key inside

-- A place without a group: one of the list, or its end where each place has a group.
pub record IsFreeGroup (groups : List Group) (place : ℕ) : Type 0 where
  pub within : place ≤ length groups
  pub no_group : get_or groups place none ≡ none
  pub last : place ≡ length groups → (at : ℕ) → at < length groups → get_or groups at none ≢ none

-- With a value for a key of the group at a place.
abbrev pub keyed_with : Keyed → ℕ → Inside → List ℕ → ℕ → Keyed
keyed_with keyed place inside key value = record keyed { groups = slice_set keyed.groups place (group_with (group_at keyed place) inside key value) }

-- With a group of one key, at a place under a length that led nowhere.
abbrev pub with_group : Keyed → ℕ → List ℕ → ℕ → Keyed
with_group keyed part key place = record { lengths = with_map keyed.lengths (insert keyed.lengths.map (length key) place); groups = put_at keyed.groups place (one_group part key) }

-- Where a new key stands: in the group of its length, or in a group of its own.
abbrev pub IsNewSpot : Keyed → ℕ → List ℕ → Option ℕ → ℕ → Inside → Type 0
IsNewSpot keyed part key None place inside = IsFreeGroup keyed.groups place × (inside ≡ one_inside part key)
IsNewSpot keyed part key (Some held) place inside = (place ≡ held) × (held < length keyed.groups) × IsNewInside (group_at keyed held) part inside

-- With a new key there.
abbrev pub added_keyed : Keyed → ℕ → List ℕ → Option ℕ → ℕ → Inside → Keyed
added_keyed keyed part key None place inside = with_group keyed part key place
added_keyed keyed part key (Some held) place inside = record keyed { groups = slice_set keyed.groups held (group_with_key (group_at keyed held) part key inside) }

-- Without the key that stands in a group.
abbrev pub keyed_without : Keyed → ℕ → ℕ → Inside → List ℕ → Keyed
keyed_without keyed place part inside key = record keyed { groups = slice_set keyed.groups place (group_without (group_at keyed place) part inside key) }

-- Without a group, the only one of keys of a length.
abbrev pub without_group : Keyed → ℕ → ℕ → Keyed
without_group keyed key_length place = record { lengths = with_map keyed.lengths (remove keyed.lengths.map key_length); groups = slice_set keyed.groups place none }

-- A key that stood in a group was taken out, and with the last one of its length the group.
pub record IsTaken (before : Keyed) (part : ℕ) (key : List ℕ) (after : Keyed) : Type 0 where
  pub place : ℕ
  pub inside : Inside
  pub stood : IsSpot before part key place inside
  pub kept : (IsEmptyGroup (group_without (group_at before place) part inside key) → ⊥) → after ≡ keyed_without before place part inside key
  pub emptied : IsEmptyGroup (group_without (group_at before place) part inside key) → after ≡ without_group before (length key) place

-- The array by which the group that a length leads to finds its keys.
abbrev pub words_at : Keyed → Option ℕ → Option (ArrayOf word_order)
words_at keyed None = None
words_at keyed (Some place) = words_of (group_at keyed place)
