-- What always holds of the groups of an array, for the hash that its keys have.
use Rattle.std.specs.Prelude.{◌≡◌, ◌≢◌, ℕ, ◌^◌, ◌<◌, ◌≤◌, List, [], length, Option, Some}
use Rattle.std.specs.FinMap.{FinMap, get, len}
use Rattle.judy_model.specs.Keys.{word_order, byte_order, IsByteString}
use Rattle.judy_model.specs.Arrays.{ArrayOf}
use Rattle.judy_model.specs.Tables.{table, bytes_keys}
use Rattle.judy_hs.specs.Chains.{Pairs, value_in, AreApart}
use Rattle.judy_hs.specs.LongGroups.{Long, chain_at}
use Rattle.judy_hs.specs.Groups.{Group, none, short, long}
use Rattle.judy_hs.specs.Keyed.{Keyed, in_keyed, group_at}
use Rattle.judy_hs.specs.Parts.{part_of}

-- Some word is a key.
abbrev pub IsUsed : FinMap word_order ℕ → Type 0
IsUsed map = (word : ℕ) × (value : ℕ) × (get map word ≡ Some value)

-- A group of short keys: each of its words has that many bytes.
pub record IsShort (key_length : ℕ) (words : ArrayOf word_order) : Type 0 where
  pub few : key_length ≤ 8
  pub used : IsUsed words.map
  pub fits : (word value : ℕ) → get words.map word ≡ Some value → word < 256 ^ key_length

module _ (hash_of : List ℕ → ℕ) where
  -- A chain under a hash: it has a key, no key twice, and each of its keys has that length and that hash.
  pub record IsChain (key_length hash : ℕ) (chain : Pairs) : Type 0 where
    pub used : chain ≢ []
    pub apart : AreApart chain
    pub keys : (key : List ℕ) (value : ℕ) → value_in chain key ≡ Some value → IsByteString key × (length key ≡ key_length) × (hash_of key ≡ hash)

  -- A group of long keys of that length: each hash leads to a chain of its own.
  pub record IsLong (key_length : ℕ) (group : Long) : Type 0 where
    pub many : 8 < key_length
    pub length_is : group.key_length ≡ key_length
    pub used : IsUsed group.hashes.map
    pub apart : (one other place : ℕ) → get group.hashes.map one ≡ Some place → get group.hashes.map other ≡ Some place → one ≡ other
    pub chains : (hash place : ℕ) → get group.hashes.map hash ≡ Some place → IsChain key_length hash (chain_at group place)

  -- A group of the keys of a length.
  abbrev pub IsGroup : ℕ → Group → Type 0
  IsGroup key_length none = ⊥
  IsGroup key_length (short words) = IsShort key_length words
  IsGroup key_length (long group) = IsLong key_length group

  -- The value of a key.
  abbrev pub value_of : Keyed → List ℕ → Option ℕ
  value_of keyed key = in_keyed keyed (part_of hash_of key) key

module _ (hash_of : List ℕ → ℕ) (longest : ℕ) where
  -- Each length leads to a group of its own, and none is above that of the longest key.
  pub record IsKeyed (keyed : Keyed) : Type 0 where
    pub within : (key_length place : ℕ) → get keyed.lengths.map key_length ≡ Some place → key_length ≤ longest
    pub apart : (one other place : ℕ) → get keyed.lengths.map one ≡ Some place → get keyed.lengths.map other ≡ Some place → one ≡ other
    pub groups : (key_length place : ℕ) → get keyed.lengths.map key_length ≡ Some place → IsGroup hash_of key_length (group_at keyed place)

  -- The map that the groups are: it answers as they do.
  abbrev pub map_of : Keyed → FinMap byte_order ℕ
  map_of keyed = table (bytes_keys longest) (value_of hash_of keyed)

  -- The array that they are, under a limit.
  abbrev pub array_of : ℕ → Keyed → ArrayOf byte_order
  array_of limit keyed = record { limit = limit; map = map_of keyed }

  -- What always holds of an array: it counts its keys.
  pub record IsHs (limit count : ℕ) (keyed : Keyed) : Type 0 where
    pub is_keyed : IsKeyed keyed
    pub counted : count ≡ len (map_of keyed)
    pub within_limit : count ≤ limit
    pub holds_some : 1 ≤ limit
    pub limit_fits : limit ≤ 4294967295
