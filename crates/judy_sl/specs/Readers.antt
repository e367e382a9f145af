-- A reader of a key, piece by piece: what is left of the key, and where the reader stands.
use Rattle.std.specs.Prelude.{◌≡◌, ℕ, ◌==◌, ◌<◌, Bool, false, List, length, slice_get, Option, None, Some, IfSome, refl}
use Rattle.std.specs.Coded.{Coded, code_by, coded×, coded_option, coded_list, coded_ℕ}
use Rattle.std.specs.List.{flat_map}
use Rattle.std.specs.Option.{option_copied, option_map}
use Rattle.std.specs.FinMap.{FinMap, entries}
use Rattle.judy_model.specs.Keys.{word_order}
use Rattle.judy_model.specs.DumpText.{shared_length}
use Rattle.judy_sl.specs.declared.reader.LevelSpot.{LevelSpot}
use Rattle.judy_sl.specs.declared.reader.Stand.{Stand}
use Rattle.judy_sl.specs.declared.reader.Step.{Step}
use Rattle.judy_sl.specs.declared.reader.Stand.TheVariants.{InLevel, InText}
use Rattle.judy_sl.specs.declared.arena.Arena.{Arena}
use Rattle.judy_sl.specs.Pieces.{pieces, piece_of}
use Rattle.judy_sl.specs.TextsLeft.{left_behind}
use Rattle.judy_sl.specs.Strings.{IsString}
use Rattle.judy_sl.specs.World.{World, lookup}
use Rattle.judy_sl.specs.Arenas.{world_of, IsArena}
use Rattle.judy_sl.specs.Behind.{entry_keys}
use Rattle.judy_sl.specs.Counted.{AreCounted, StandsWith}
use Rattle.judy_sl.specs.Listed.{Lists, AreListed, IsListOf}

-- The bytes that are left of a key, or none where its last piece was read, the one of fewer than eight bytes; and its value.
pub record KeyLeft : Type 0 where
  pub left : Option (List ℕ)
  pub value : ℕ

-- It is stored as the pair of these.
abbrev pub left_code : Coded KeyLeft
left_code = code_by (Option (List ℕ) × ℕ) (coded× (coded_option (coded_list coded_ℕ)) coded_ℕ) (λ key. (key.left, key.value)) (λ pair. record { left = pair.0; value = pair.1 }) (λ _. refl)

-- ---- where a reader stands

-- A pair of a key and its value, which is to be read.
abbrev pub pair_left : Option (List ℕ × ℕ) → KeyLeft
pair_left None = record { left = None; value = 0 }
pair_left (Some pair) = record { left = Some pair.0; value = pair.1 }

-- The keys behind a level, by the bytes that are left of each there, with their values.
abbrev pub level_keys : World → FinMap word_order ℕ → List (List ℕ × ℕ)
level_keys world words = flat_map (entry_keys world) (entries words)

-- What is left of the key where a reader stands: the key at a place behind a level, or a text's rest.
abbrev pub left_at : World → Stand → KeyLeft
left_at world (InLevel spot) = pair_left (slice_get (level_keys world spot.level.now.map) spot.place)
left_at world (InText text value) = record { left = text; value = value }

-- The level tells how many keys stand behind it, the list is its own, and a key stands at the place.
pub record IsSpot (world : World) (spot : LevelSpot) : Type 0 where
  pub told : StandsWith world spot.level.now.map spot.keys
  pub list : IsListOf world spot.level.now.map (option_copied spot.list)
  pub within : spot.place < length (level_keys world spot.level.now.map)

-- A reader can stand there.
abbrev pub IsStand : World → Stand → Type 0
IsStand world (InLevel spot) = IsSpot world spot
IsStand world (InText text value) = IfSome text IsString

-- What always holds of a reader.
pub record IsReader (arena : Arena) (lists : Lists) (stand : Stand) : Type 0 where
  pub is_arena : IsArena arena
  pub counted : AreCounted arena
  pub listed : AreListed (world_of arena) lists
  pub stands : IsStand (world_of arena) stand

-- A reader that has this left has read its next piece, and stands where it has the rest.
pub record IsStep (world : World) (key : KeyLeft) (step : Step) : Type 0 where
  pub piece : Some step.piece ≡ option_map piece_of key.left
  pub stands : IsStand world step.stand
  pub left : (left_at world step.stand).left ≡ left_behind key.left
  pub value : (left_at world step.stand).value ≡ key.value

-- ---- what is found of what is left

-- What is found from a seat under the pieces that are left; nothing behind the last one.
abbrev pub found_from : World → ℕ → Option (List ℕ) → Option ℕ
found_from world seat None = None
found_from world seat (Some bytes) = lookup world seat (pieces bytes)

-- How many bytes other bytes share with what is left.
abbrev pub shared_left : Option (List ℕ) → List ℕ → ℕ
shared_left None bytes = 0
shared_left (Some key) bytes = shared_length key bytes

-- Whether all that is left begins other bytes.
abbrev pub ends_left : Option (List ℕ) → List ℕ → Bool
ends_left None bytes = false
ends_left (Some key) bytes = shared_length key bytes == length key
