-- What a level of an array of strings holds, as seen from its keys.
use Rattle.std.specs.Prelude.{◌≡◌, ◌≢◌, ℕ, ◌<◌, ◌⊎◌, ◌↔◌, IsTrue, List, [], ◌++◌, length, Some}
use Rattle.std.specs.FinMap.{FinMap, get, contains_key}
use Rattle.judy_model.specs.Keys.{word_order, byte_order}
use Rattle.judy_sl.specs.Pieces.{piece_of, IsText}

-- Two keys of the map begin with the bytes, or there are no bytes.
abbrev pub HasBranch : FinMap byte_order ℕ → List ℕ → Type 0
HasBranch map at = (at ≡ []) ⊎ ((one other : List ℕ) × (one ≢ other) × IsTrue (contains_key map (at ++ one)) × IsTrue (contains_key map (at ++ other)))

-- The words that a level holds are the pieces that come next in the keys that begin with the bytes; and where a
-- key ends with that piece, the word has the key's value.
pub record IsLevelOf (map : FinMap byte_order ℕ) (at : List ℕ) (words : FinMap word_order ℕ) : Type 0 where
  pub pieces : (piece : ℕ) → IsTrue (contains_key words piece) ↔ ((rest : List ℕ) × IsTrue (contains_key map (at ++ rest)) × (piece ≡ piece_of rest))
  pub ends : (rest : List ℕ) (value : ℕ) → IsText rest → length rest < 8 → get words (piece_of rest) ≡ Some value → get map (at ++ rest) ≡ Some value
