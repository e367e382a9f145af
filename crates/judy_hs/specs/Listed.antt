-- The entries of an array as a list: by the lengths of their keys, and those of one length by their bytes.
use Rattle.std.specs.Prelude.{◌≡◌, ◌≤◌, ◌++◌, ℕ, Bool, List, [], map}
use Rattle.std.specs.List.{flat_map}
use Rattle.std.specs.List.Sorted.{IsPermutation}
use Rattle.std.specs.Ordering.{is_lt}
use Rattle.std.specs.FinMap.{entries, from_entries}
use Rattle.judy_model.specs.Keys.{word_order, byte_order}
use Rattle.judy_model.specs.WordBytes.{low_bytes}
use Rattle.judy_model.specs.Arrays.{ArrayOf}
use Rattle.judy_hs.specs.Chains.{Pairs, AreApart}
use Rattle.judy_hs.specs.LongGroups.{Long, chain_at}
use Rattle.judy_hs.specs.Groups.{Group, none, short, long}
use Rattle.judy_hs.specs.Keyed.{Keyed, group_at}
use Rattle.judy_hs.specs.declared.entry.HsKey.{HsKey}
use Rattle.judy_hs.specs.declared.entry.HsKey.TheVariants.{Short, Copied, Long as Borrowed}
use Rattle.judy_hs.specs.declared.entry.HsEntry.{HsEntry}

-- The bytes of a key, whether copied or borrowed.
abbrev pub key_bytes : HsKey → List ℕ
key_bytes (Short bytes) = bytes.items
key_bytes (Copied bytes) = bytes.items
key_bytes (Borrowed bytes) = bytes.now

-- Whether an entry comes before another by the bytes of their keys.
abbrev pub is_before : HsEntry → HsEntry → Bool
is_before one other = is_lt (byte_order (key_bytes one.key) (key_bytes other.key))

-- Entries as pairs of a key and its value.
abbrev pub entries_in : List HsEntry → Pairs
entries_in entries = map (λ entry. (key_bytes entry.key, entry.value)) entries

-- The keys of a length up to 8 in the order of their words, which is that of their bytes.
abbrev pub short_list : ℕ → ArrayOf word_order → Pairs
short_list key_length words = map (λ entry. (low_bytes key_length entry.0, entry.1)) (entries words.map)

-- The places to which the hashes of a group lead, in the order of the hashes.
abbrev pub places_of : Long → List ℕ
places_of group = map (λ entry. entry.1) (entries group.hashes.map)

-- The chains of a group, one after the other.
abbrev pub chained : Long → Pairs
chained group = flat_map (λ entry. chain_at group entry.1) (entries group.hashes.map)

-- Its pairs were listed behind others, in any order.
abbrev pub AreListed : Long → Pairs → Pairs → Type 0
AreListed group before after = (added : Pairs) × IsPermutation (chained group) added × (after ≡ before ++ added)

-- Its pairs by the bytes of the keys.
abbrev pub long_list : Long → Pairs
long_list group = entries (from_entries {R = byte_order} (chained group))

-- The keys of a group by their bytes.
abbrev pub group_list : ℕ → Group → Pairs
group_list key_length none = []
group_list key_length (short words) = short_list key_length words
group_list key_length (long group) = long_list group

-- What a group must be for that: short keys have at most 8 bytes, and no long key is in two chains or twice in one.
abbrev pub CanList : ℕ → Group → Type 0
CanList key_length none = Unit {0}
CanList key_length (short words) = key_length ≤ 8
CanList key_length (long group) = AreApart (chained group)

-- All keys.
abbrev pub keyed_list : Keyed → Pairs
keyed_list keyed = flat_map (λ entry. group_list entry.0 (group_at keyed entry.1)) (entries keyed.lengths.map)
