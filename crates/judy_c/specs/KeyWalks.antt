-- How a walk of C over an array of strings, or of byte strings, fills the caller's two buffers: the bytes of the keys one behind the other, and the
-- length and the value of each.
use Rattle.std.specs.Prelude.{◌≡◌, ◌≤◌, ◌++◌, ◌+◌, ◌-◌, ℕ, zero, suc, Bool, true, false, if◌then◌else◌, nat_le, List, [], ◌∷◌, length, take, drop, map, flat_map, Option, Some, None}
use Rattle.std.specs.FinMap.{FinMap, get, entries}
use Rattle.judy_model.specs.Keys.{byte_order}
use Rattle.judy_model.specs.Counts.{rank, count_up_to}
use Rattle.judy_model.specs.Neighbours.{first, next}
use Rattle.judy_model.specs.DumpText.{length_order, entries_by}
use Rattle.judy_c.specs.declared.key_walks.KeyEntry.{KeyEntry}

-- Keys with their values.
abbrev pub Pairs : Type 0
Pairs = List (List ℕ × ℕ)

-- Where those of a map from a string on begin, or from above it, by ascending key.
abbrev pub place_from : FinMap byte_order ℕ → List ℕ → Bool → ℕ
place_from map from itself = if itself then rank map from else count_up_to map from

-- They themselves.
abbrev pub pairs_from : FinMap byte_order ℕ → List ℕ → Bool → Pairs
pairs_from map from itself = drop (place_from map from itself) (entries map)

-- The least key of those.
abbrev pub beside : FinMap byte_order ℕ → List ℕ → Bool → Option (List ℕ)
beside map from itself = if itself then first map from else next map from

-- Those behind the first ones, by the lengths of the keys, and those of one length by their bytes.
abbrev pub pairs_behind : FinMap byte_order ℕ → ℕ → Pairs
pairs_behind map count = drop count (entries_by length_order map)

-- The first pairs, as many as fit: at most so many, whose keys have at most so many bytes together.
abbrev pub fitting : ℕ → ℕ → Pairs → Pairs
fitting bytes zero rest = []
fitting bytes (suc count) [] = []
fitting bytes (suc count) (pair ∷ rest) = if nat_le (length pair.0) bytes then pair ∷ fitting (bytes - length pair.0) count rest else []

-- The bytes of their keys.
abbrev pub bytes_of : Pairs → List ℕ
bytes_of pairs = flat_map (λ pair. pair.0) pairs

-- The lengths of their keys with their values, as C has them.
abbrev pub told_of : Pairs → List KeyEntry
told_of pairs = map (λ pair. record { length = length pair.0; value = pair.1 }) pairs

-- The caller's two buffers.
pub record Page : Type 0 where
  pub bytes : List ℕ
  pub entries : List KeyEntry

abbrev pub page_of : List ℕ → List KeyEntry → Page
page_of bytes entries = record { bytes = bytes; entries = entries }

-- Pairs are written to the beginning of the buffers, and counted. Behind them the buffers stay.
abbrev pub IsWritten : Pairs → Page → ℕ → Page → Type 0
IsWritten pairs before count after =
    (count ≡ length pairs)
    × (after.bytes ≡ bytes_of pairs ++ drop (length (bytes_of pairs)) before.bytes)
    × (after.entries ≡ told_of pairs ++ drop count before.entries)

-- Of what is still to come, as many pairs as fit.
abbrev pub IsFilled : Pairs → Page → ℕ → Page → Type 0
IsFilled rest before count after = IsWritten (fitting (length before.bytes) (length before.entries) rest) before count after

-- What is told of a pair whose key is written behind so many bytes; what stands behind it stays.
pub record IsPutAt (pair : List ℕ × ℕ) (used : ℕ) (before : List ℕ) (entry : KeyEntry) (after : List ℕ) : Type 0 where
  pub told : entry ≡ record { length = length pair.0; value = pair.1 }
  pub fits : nat_le (length pair.0) (length before - used) ≡ true
  pub written : take (used + length pair.0) after ≡ take used before ++ pair.0
  pub behind : drop (used + length pair.0) after ≡ drop (used + length pair.0) before
  pub same_length : length after ≡ length before

-- The first pair of what is still to come is written so, where it fits; else the bytes stay.
abbrev pub IsPut : Pairs → ℕ → List ℕ → Option KeyEntry → List ℕ → Type 0
IsPut rest used before None after = (fitting (length before - used) 1 rest ≡ []) × (after ≡ before)
IsPut rest used before (Some entry) after = (pair : List ℕ × ℕ) × (rest ≡ pair ∷ drop 1 rest) × IsPutAt pair used before entry after

-- The last so many bytes.
abbrev pub end_of : ℕ → List ℕ → List ℕ
end_of count bytes = drop (length bytes - count) bytes

-- They are the key before a place of a map.
pub record EndsBytes (map : FinMap byte_order ℕ) (place : ℕ) (bytes : List ℕ) (count : ℕ) : Type 0 where
  pub inside : count ≤ length bytes
  pub value : ℕ
  pub held : get map (end_of count bytes) ≡ Some value
  pub behind : pairs_from map (end_of count bytes) false ≡ drop place (entries map)
