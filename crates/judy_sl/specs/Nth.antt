-- Where the key at a place stands, counted from 0: among the entries of a level, and behind a seat.
use Rattle.std.specs.Prelude.{◌≡◌, ℕ, suc, ◌+◌, ◌-◌, ◌<◌, ◌≤◌, List, ◌∷◌, ◌++◌, length, slice_get, Option, Some, unwrap_or, Result, MatchResult}
use Rattle.std.specs.List.{flat_map}
use Rattle.std.specs.FinMap.{FinMap, entries, get, len}
use Rattle.judy_model.specs.Keys.{word_order, byte_order}
use Rattle.judy_model.specs.Counts.{nth, by_count}
use Rattle.judy_sums.specs.Pairs.{sum_below}
use Rattle.judy_sums.specs.Levels.{part_len}
use Rattle.judy_sl.specs.declared.nth.Mark.{Mark}
use Rattle.judy_sl.specs.declared.nth.EntryPlace.{EntryPlace}
use Rattle.judy_sl.specs.World.{World}
use Rattle.judy_sl.specs.Behind.{map_behind, entry_keys}
use Rattle.judy_sl.specs.Counted.{keys_behind_all}
use Rattle.judy_model.specs.declared.keys.TheConstants.{LONGEST_STRING}

-- What stands before the entry at a place of a level: the entries before it, and what its list of sums holds below its word.
abbrev pub before_entry : FinMap word_order ℕ → FinMap word_order ℕ → ℕ → ℕ
before_entry words sums place = place + sum_below (entries sums) (unwrap_or (nth words place) 0)

-- It is the last entry before which at most so much stands, and so much does.
pub record IsChosen (words sums : FinMap word_order ℕ) (most : ℕ) (mark : Mark) : Type 0 where
  pub within : mark.place < len words
  pub before : mark.before ≡ before_entry words sums mark.place
  pub low : mark.before ≤ most
  pub high : suc mark.place < len words → most < before_entry words sums (suc mark.place)

-- It is the entry that is chosen for a place, and there the key has what is left of the place.
pub record IsListedSpot (words sums : FinMap word_order ℕ) (place : ℕ) (spot : EntryPlace) : Type 0 where
  pub mark : Mark
  pub chosen : IsChosen words sums place mark
  pub at : by_count words (mark.place + 1) ≡ Some spot.piece
  pub held : get words spot.piece ≡ Some spot.value
  pub left : spot.place ≡ place - mark.before

-- Behind this one of some entries stands the key at a place, and there it has this place.
pub record IsSpotIn (world : World) (page : List (ℕ × ℕ)) (place : ℕ) (spot : EntryPlace) : Type 0 where
  pub front : List (ℕ × ℕ)
  pub back : List (ℕ × ℕ)
  pub split : page ≡ front ++ (spot.piece, spot.value) ∷ back
  pub within : spot.place < part_len (entry_keys world) (spot.piece, spot.value)
  pub passed : place ≡ keys_behind_all world front + spot.place

-- Some entries were read for the key at a place: it stands behind one of them, or so much of the place is left behind them all.
abbrev pub AreReadFor : World → List (ℕ × ℕ) → ℕ → Result EntryPlace ℕ → Type 0
AreReadFor world page place result = MatchResult result (IsSpotIn world page place) (λ left. place ≡ keys_behind_all world page + left)

-- Behind this entry of a level stands the key at a place, and there it has this place.
pub record IsSpotOf (world : World) (words : FinMap word_order ℕ) (place : ℕ) (spot : EntryPlace) : Type 0 where
  pub held : get words spot.piece ≡ Some spot.value
  pub within : spot.place < part_len (entry_keys world) (spot.piece, spot.value)
  pub same : slice_get (flat_map (entry_keys world) (entries words)) place ≡ slice_get (entry_keys world (spot.piece, spot.value)) spot.place

-- Behind the bytes of a buffer there is room for each key behind a seat.
abbrev pub KeysFit : World → ℕ → List ℕ → Type 0
KeysFit world seat bytes = (rest : List ℕ) (value : ℕ) → get (map_behind world seat) rest ≡ Some value → length bytes + length rest ≤ LONGEST_STRING

-- What is left of the key at a place behind a seat was put behind the bytes of a buffer, and its value answered.
pub record IsNthBehind (world : World) (seat place : ℕ) (before after : List ℕ) (found : Option ℕ) : Type 0 where
  pub rest : List ℕ
  pub value : ℕ
  pub stands : slice_get (entries (map_behind world seat)) place ≡ Some (rest, value)
  pub bytes : after ≡ before ++ rest
  pub answer : found ≡ Some value

-- These bytes are the key at a place of an array, and its value was answered.
pub record IsNth (map : FinMap byte_order ℕ) (place : ℕ) (found : Option ℕ) (key : List ℕ) : Type 0 where
  pub value : ℕ
  pub at : nth map place ≡ Some key
  pub held : get map key ≡ Some value
  pub answer : found ≡ Some value
