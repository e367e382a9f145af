-- How a group of long keys stands in records and chains. A hash leads to a place, which has the record of a key; where other keys share the
-- hash, a chain has these.
use Rattle.std.specs.Prelude.{◌≡◌, ◌≢◌, ℕ, suc, List, [], ◌∷◌, length, Some, unwrap_or, All}
use Rattle.std.specs.BTreeMap as tree
use Rattle.std.specs.BTreeMap.{BTreeMap}
use Rattle.std.specs.FinMap.{FinMap, get}
use Rattle.std.specs.Ordering.{nat_cmp}
use Rattle.judy_model.specs.Keys.{word_order, IsByteString}
use Rattle.judy_records.specs.Texts.{words_for, words_of, bytes_in}
use Rattle.judy_records.specs.Spots.{Spot, free, held, RecordList, IsHeld, spot_at}
use Rattle.judy_hs.specs.Chains.{Pairs}

-- The other keys of a place, beside that of its record.
abbrev pub others_at : BTreeMap ℕ Pairs → ℕ → Pairs
others_at chains place = unwrap_or (tree.get nat_cmp chains place) []

-- The keys of a place: the one that its record spells, and the others.
abbrev pub pairs_of : ℕ → Pairs → Spot → Pairs
pairs_of key_length others (free next) = []
pairs_of key_length others (held value text) = (bytes_in key_length text, value) ∷ others

-- Those of places, from one on.
abbrev pub pairs_from : ℕ → BTreeMap ℕ Pairs → ℕ → List Spot → List Pairs
pairs_from key_length chains at [] = []
pairs_from key_length chains at (spot ∷ rest) = pairs_of key_length (others_at chains at) spot ∷ pairs_from key_length chains (suc at) rest

-- Those of all places.
abbrev pub all_pairs : ℕ → BTreeMap ℕ Pairs → RecordList → List Pairs
all_pairs key_length chains records = pairs_from key_length chains 0 records.spots

-- A key has that length.
abbrev pub IsKeyOf : ℕ → List ℕ → Type 0
IsKeyOf key_length key = IsByteString key × (length key ≡ key_length)

-- A record spells a key of that length.
abbrev pub IsSpelled : ℕ → Spot → Type 0
IsSpelled key_length (free next) = Unit {0}
IsSpelled key_length (held value text) = (key : List ℕ) × IsKeyOf key_length key × (words_of key ≡ text)

-- What always holds of them: each hash leads to a place of its own, where a record stands; each record spells a key; there are others only
-- beside a record, and these have the same length.
pub record AreLongRecords (hashes : FinMap word_order ℕ) (key_length : ℕ) (chains : BTreeMap ℕ Pairs) (records : RecordList) : Type 0 where
  pub size : records.size ≡ words_for key_length
  pub apart : (one other place : ℕ) → get hashes one ≡ Some place → get hashes other ≡ Some place → one ≡ other
  pub led : (hash place : ℕ) → get hashes hash ≡ Some place → IsHeld (spot_at records place)
  pub spelled : (place : ℕ) → IsSpelled key_length (spot_at records place)
  pub beside : (place : ℕ) → others_at chains place ≢ [] → IsHeld (spot_at records place)
  pub keys : (place : ℕ) → All (λ pair. IsKeyOf key_length pair.0) (others_at chains place)
