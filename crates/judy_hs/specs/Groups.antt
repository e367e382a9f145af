-- A group: the keys of one length. A key is found in it by a word, its part: the number that a key of at most 8 bytes
-- spells, or the hash of a longer one.
use Rattle.std.specs.Prelude.{◌≡◌, ◌≢◌, ◌<◌, ℕ, List, [], length, Option, Some, None, ◌⊎◌, refl, IfSome, IsSome, nat_le, if◌then◌else◌}
use Rattle.std.specs.Coded.{Coded, code_by, coded⊎, coded_option}
use Rattle.std.specs.FinMap.{get, insert, empty, remove}
use Rattle.std.proofs.Common.{inl, inr}
use Rattle.judy_model.specs.Keys.{word_order}
use Rattle.judy_model.specs.Arrays.{ArrayOf, array_code, with_map}
use Rattle.judy_word.specs.Writes.{with_value}
use Rattle.std.specs.Coded.{coded_ℕ}
use Rattle.judy_hs.specs.LongGroups.{Long, long_code, one_word, one_long, chain_at, in_long, IsLongPlace, value_of_place, long_with, IsFound, added_long, without_key}
use Rattle.judy_hs.specs.Chains.{value_in}
use Rattle.judy_hs.specs.declared.group.Inside.{Inside}
use Rattle.judy_hs.specs.declared.group.Inside.TheVariants.{Word, Chained}

-- No group; one of short keys, the array from them as words to their values; or one of long keys.
pub data Group : Type 0 where
  none : Group
  short : ArrayOf word_order → Group
  long : Long → Group

-- How a group is stored.
abbrev pub stored : Group → Option (ArrayOf word_order ⊎ Long)
stored none = None
stored (short words) = Some (inl words)
stored (long group) = Some (inr group)

-- And read again: a group, from the sum of the two kinds,
abbrev pub restored_one : ArrayOf word_order ⊎ Long → Group
restored_one (inl words) = short words
restored_one (inr group) = long group

-- or none.
abbrev pub restored : Option (ArrayOf word_order ⊎ Long) → Group
restored None = none
restored (Some one) = restored_one one

-- What was stored is read again as it was.
pub restored-stored : (group : Group) → restored (stored group) ≡ group
restored-stored none = refl
restored-stored (short words) = refl
restored-stored (long group) = refl

-- So groups have a code.
abbrev pub group_code : Coded Group
group_code = code_by (Option (ArrayOf word_order ⊎ Long)) (coded_option (coded⊎ (array_code coded_ℕ) long_code)) stored restored restored-stored

-- The value of a key under its part.
abbrev pub in_group : Group → ℕ → List ℕ → Option ℕ
in_group none part key = None
in_group (short words) part key = get words.map part
in_group (long group) part key = in_long group part key

-- The place of the chain of a long key's hash.
abbrev pub chain_in : Group → ℕ → Option ℕ
chain_in none part = None
chain_in (short words) part = None
chain_in (long group) part = get group.hashes.map part

-- The key stands there.
abbrev pub IsInside : Group → ℕ → List ℕ → Inside → Type 0
IsInside none part key inside = ⊥
IsInside (short words) part key (Word word) = (word ≡ part) × ((value : ℕ) × (get words.map part ≡ Some value))
IsInside (short words) part key (Chained place) = ⊥
IsInside (long group) part key (Word word) = ⊥
IsInside (long group) part key (Chained place) = IsLongPlace group part key place

-- The place of the chain, where there is one, is a place of the list, and the key is in the chain.
abbrev pub IsUsable : Group → Inside → List ℕ → Type 0
IsUsable none inside key = Unit {0}
IsUsable (short words) inside key = Unit {0}
IsUsable (long group) (Word word) key = Unit {0}
IsUsable (long group) (Chained place) key = (place < length group.chains) × IsSome (value_in (chain_at group place) key)

-- The value of the key that stands there.
abbrev pub value_inside : Group → Inside → List ℕ → Option ℕ
value_inside none inside key = None
value_inside (short words) (Word word) key = get words.map word
value_inside (short words) (Chained place) key = None
value_inside (long group) (Word word) key = None
value_inside (long group) (Chained place) key = value_of_place group place key

-- The group with a value for the key there.
abbrev pub group_with : Group → Inside → List ℕ → ℕ → Group
group_with none inside key value = none
group_with (short words) (Word word) key value = short (with_value words word value)
group_with (short words) (Chained place) key value = short words
group_with (long group) (Word word) key value = long group
group_with (long group) (Chained place) key value = long (long_with group place key value)

-- A key is as long as those of the group.
abbrev pub IsOfLength : Group → List ℕ → Type 0
IsOfLength none key = Unit {0}
IsOfLength (short words) key = Unit {0}
IsOfLength (long group) key = length key ≡ group.key_length

-- A new key can be put in: there is a group, and the chain of its hash, if there is one, has a key.
abbrev pub CanTakeKey : Group → ℕ → Type 0
CanTakeKey none part = ⊥
CanTakeKey (short words) part = get words.map part ≡ None
CanTakeKey (long group) part = IfSome (get group.hashes.map part) (λ place. chain_at group place ≢ [])

-- Where a new key stands.
abbrev pub IsNewInside : Group → ℕ → Inside → Type 0
IsNewInside none part inside = ⊥
IsNewInside (short words) part (Word word) = word ≡ part
IsNewInside (short words) part (Chained place) = ⊥
IsNewInside (long group) part (Word word) = ⊥
IsNewInside (long group) part (Chained place) = IsFound group (get group.hashes.map part) place

-- The group with a new key there, its value 0.
abbrev pub group_with_key : Group → ℕ → List ℕ → Inside → Group
group_with_key none part key inside = none
group_with_key (short words) part key inside = short (with_map words (insert words.map part 0))
group_with_key (long group) part key (Word word) = long group
group_with_key (long group) part key (Chained place) = long (added_long group part key (get group.hashes.map part) place)

-- The group without the key that stands there.
abbrev pub group_without : Group → ℕ → Inside → List ℕ → Group
group_without none part inside key = none
group_without (short words) part inside key = short (with_map words (remove words.map part))
group_without (long group) part (Word word) key = long group
group_without (long group) part (Chained place) key = long (without_key group part place key)

-- A key that stood in the group was taken out.
pub record IsGroupLess (before : Group) (part : ℕ) (key : List ℕ) (after : Group) : Type 0 where
  pub inside : Inside
  pub stood : IsInside before part key inside
  pub less : after ≡ group_without before part inside key

-- The group has no key.
abbrev pub IsEmptyGroup : Group → Type 0
IsEmptyGroup none = Unit {0}
IsEmptyGroup (short words) = words.map ≡ empty
IsEmptyGroup (long group) = group.hashes.map ≡ empty

-- The group of one key, with the value 0.
abbrev pub one_group : ℕ → List ℕ → Group
one_group part key = if nat_le (length key) 8 then short (one_word part 0) else long (one_long part key)

-- Where the key stands in it.
abbrev pub one_inside : ℕ → List ℕ → Inside
one_inside part key = if nat_le (length key) 8 then Word part else Chained 0

-- The array by which a group finds its keys.
abbrev pub words_of : Group → Option (ArrayOf word_order)
words_of none = None
words_of (short words) = Some words
words_of (long group) = Some group.hashes
