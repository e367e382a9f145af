-- The levels of an array but the first, which stand in two lists side by side.
use Rattle.std.specs.Prelude.{ℕ, ◌<◌, List, [], ◌∷◌, length, slice_set, Option, None, Some, nat_le, if◌then◌else◌, refl}
use Rattle.std.specs.Coded.{Coded, code_by, coded×, coded_ℕ}
use Rattle.judy_model.specs.Keys.{word_order}
use Rattle.judy_model.specs.Arrays.{ArrayOf, array_code}
use Rattle.slab.specs.Slab as slab

-- A level: how many keys stand behind it, and its entries.
pub record LevelParts : Type 0 where
  pub keys : ℕ
  pub words : ArrayOf word_order

abbrev pub parts_code : Coded LevelParts
parts_code =
    code_by (ℕ × ArrayOf word_order) (coded× coded_ℕ (array_code coded_ℕ)) (λ parts. (parts.keys, parts.words)) (λ pair. record { keys = pair.0; words = pair.1 }) (λ _. refl)

-- The level with a number and entries, where there are such.
abbrev pub parts_of : ℕ → Option (ArrayOf word_order) → Option LevelParts
parts_of keys None = None
parts_of keys (Some words) = Some (record { keys = keys; words = words })

-- The number of a level, and its entries.
abbrev pub keys_in : Option LevelParts → ℕ
keys_in None = 0
keys_in (Some parts) = parts.keys

abbrev pub words_in : Option LevelParts → Option (ArrayOf word_order)
words_in None = None
words_in (Some parts) = Some parts.words

-- Levels with their numbers; where there is none it is 0.
abbrev pub numbered : List (Option (ArrayOf word_order)) → List ℕ → List (Option LevelParts)
numbered [] numbers = []
numbered (slot ∷ slots) [] = parts_of 0 slot ∷ numbered slots []
numbered (slot ∷ slots) (keys ∷ numbers) = parts_of keys slot ∷ numbered slots numbers

-- Both lists as one. There is room for more levels only where each place of the first list has a number.
abbrev pub side_by_side : slab.Slab (ArrayOf word_order) → List ℕ → slab.Slab LevelParts
side_by_side words numbers = record {
  slots = numbered words.slots numbers;
  vacant_key = words.vacant_key;
  capacity = if nat_le words.capacity (length numbers) then words.capacity else slab.slab_len words;
}

-- Each level has a number.
abbrev pub AreNumbered : slab.Slab (ArrayOf word_order) → List ℕ → Type 0
AreNumbered words numbers = (index : ℕ) → slab.ContainsKey words index → index < length numbers

-- Another number of a level, and other entries.
abbrev pub with_keys : slab.Slab LevelParts → ℕ → ℕ → slab.Slab LevelParts
with_keys levels index keys = record levels { slots = slice_set levels.slots index (parts_of keys (words_in (slab.get levels index))) }

abbrev pub with_words : slab.Slab LevelParts → ℕ → ArrayOf word_order → slab.Slab LevelParts
with_words levels index words = slab.with_value levels index (record { keys = keys_in (slab.get levels index); words = words })
