-- Lists of how many keys begin with each piece behind levels below the first.
use Rattle.std.specs.Prelude.{◌≡◌, ℕ, suc, ◌+◌, ◌*◌, ◌/◌, ◌-◌, ◌<◌, ◌≤◌, Bool, true, false, nat_lt, if◌then◌else◌, List, [], ◌∷◌, ◌++◌, length, take, drop, Option, None, Some}
use Rattle.std.specs.FinMap.{FinMap, entries, get, insert, find, len}
use Rattle.judy_model.specs.Keys.{word_order, byte_order}
use Rattle.judy_model.specs.Arrays.{ArrayOf}
use Rattle.judy_sums.specs.Pairs.{Pairs, number_at, sum_of}
use Rattle.judy_sums.specs.Levels.{part_of}
use Rattle.judy_sums.specs.Listed.{list_at}
use Rattle.judy_sl.specs.Children.{Child, Free, Tail, Level, IsLevelChild}
use Rattle.judy_sl.specs.declared.arena.Arena.{Arena}
use Rattle.judy_sl.specs.Pieces.{pieces, piece_of, AreInner}
use Rattle.judy_sl.specs.World.{World, level, walk}
use Rattle.judy_sl.specs.Arenas.{world_of, child_at}
use Rattle.judy_sl.specs.Ways.{levels_passed}
use Rattle.judy_sl.specs.Noted.{AreFirstPassed}
use Rattle.judy_sl.specs.Behind.{map_behind, entry_keys}
use Rattle.judy_sl.specs.Counted.{keys_behind, keys_behind_all, IsAmong, AreOnce}
use Rattle.judy_sl.specs.Firsts.{beginning, AreFirsts}

-- The place of the level at an index.
abbrev pub place_of : ℕ → ℕ
place_of index = index * 256 + 255

-- A row of lists by the indices of their levels.
abbrev pub Lists : Type 0
Lists = List (Option (FinMap word_order ℕ))

-- A list is that of the level at a place, behind which more keys stand than a level without one may have.
pub record IsListed (world : World) (at : ℕ) (list : FinMap word_order ℕ) : Type 0 where
  pub firsts : AreFirsts (map_behind world (suc at)) list
  pub many : 32 < keys_behind world (suc at)

-- Each list is that of the level at its index.
abbrev pub AreListed : World → Lists → Type 0
AreListed world lists = (index : ℕ) (list : FinMap word_order ℕ) → list_at lists index ≡ Some list → IsListed world (place_of index) list

-- What was found is a list of a level with these entries, or nothing.
abbrev pub IsListOf : World → FinMap word_order ℕ → Option (FinMap word_order ℕ) → Type 0
IsListOf world words found = (list : FinMap word_order ℕ) → found ≡ Some list → (seat : ℕ) × (world seat ≡ level words) × AreFirsts (map_behind world seat) list

-- It has of each piece how many keys stand behind the piece's entry among some, less one, and no word whose number is 0.
pub record IsPageList (world : World) (page : Pairs) (list : FinMap word_order ℕ) : Type 0 where
  pub numbers : (piece : ℕ) → number_at list piece ≡ length (part_of (entry_keys world) piece (find word_order piece page)) - 1
  pub some : (piece number : ℕ) → get list piece ≡ Some number → 1 ≤ number

-- So far these entries are read for a list.
pub record IsListing (world : World) (page : Pairs) (list : FinMap word_order ℕ) : Type 0 where
  pub listed : IsPageList world page list
  pub sum : sum_of (entries list) ≤ keys_behind_all world page
  pub few : len list ≤ length page

-- A list with the number of an entry behind which so many keys stand.
abbrev pub with_entry : FinMap word_order ℕ → ℕ → ℕ → FinMap word_order ℕ
with_entry list piece keys = if nat_lt 1 keys then insert list piece (keys - 1) else list

-- ---- lists that lack a key, or count one too many

-- It doesn't count a key yet that has come in behind the level, of which this is left there.
pub record LacksKey (world : World) (at : ℕ) (rest : List ℕ) (list : FinMap word_order ℕ) : Type 0 where
  pub all : FinMap byte_order ℕ
  pub firsts : AreFirsts all list
  pub many : 32 < keys_behind world (suc at)
  pub absent : get all rest ≡ None
  pub becomes : map_behind world (suc at) ≡ insert all rest 0

-- It counts a key still that has gone.
pub record KeepsKey (world : World) (at : ℕ) (rest : List ℕ) (list : FinMap word_order ℕ) : Type 0 where
  pub value : ℕ
  pub firsts : AreFirsts (insert (map_behind world (suc at)) rest value) list
  pub absent : get (map_behind world (suc at)) rest ≡ None

abbrev pub IsOffBy : Bool → World → ℕ → List ℕ → FinMap word_order ℕ → Type 0
IsOffBy true world at rest list = LacksKey world at rest list
IsOffBy false world at rest list = KeepsKey world at rest list

-- A level stands at a place; where a key has gone that is so if it has a list.
abbrev pub IsThere : Bool → Arena → Lists → ℕ → Type 0
IsThere true arena lists at = IsLevelChild (child_at arena at)
IsThere false arena lists at = (list : FinMap word_order ℕ) → list_at lists (at / 256) ≡ Some list → IsLevelChild (child_at arena at)

-- The list of a level on a key's way, where it has one, is off by that key.
pub record IsOff (comes : Bool) (arena : Arena) (lists : Lists) (at : ℕ) (rest : List ℕ) : Type 0 where
  pub index : place_of (at / 256) ≡ at
  pub there : IsThere comes arena lists at
  pub list : (list : FinMap word_order ℕ) → list_at lists (at / 256) ≡ Some list → IsOffBy comes (world_of arena) at rest list

-- So it is with each of some levels on the way, one a piece.
abbrev pub AreOff : Bool → Arena → Lists → List ℕ → List ℕ → Type 0
AreOff comes arena lists [] rest = Unit {0}
AreOff comes arena lists (at ∷ places) rest = (8 ≤ length rest) × IsOff comes arena lists at (drop 8 rest) × AreOff comes arena lists places (drop 8 rest)

-- The lists of levels but of those at some places are right.
pub record AreListedBut (comes : Bool) (arena : Arena) (lists : Lists) (places : List ℕ) (rest : List ℕ) : Type 0 where
  pub once : AreOnce places
  pub off : AreOff comes arena lists places rest
  pub others : (index : ℕ) (list : FinMap word_order ℕ) → list_at lists index ≡ Some list → (IsAmong places (place_of index) → ⊥) → IsListed (world_of arena) (place_of index) list

-- ---- which lists are raised

-- Whether others begin with the next piece of a key behind a level on its way: they do where the way passes so many more levels, and behind the last one as is told.
abbrev pub others_begin : ℕ → Bool → Bool
others_begin left beside = if nat_lt 0 left then true else beside

-- It is so of the next piece behind the level at a place, now that the key has come in.
abbrev pub IsBegun : World → ℕ → List ℕ → Bool → Type 0
IsBegun world at rest true = 2 ≤ beginning (map_behind world (suc at)) (piece_of rest)
IsBegun world at rest false = beginning (map_behind world (suc at)) (piece_of rest) ≤ 1

-- And behind each of some levels, one a piece.
abbrev pub AreBegun : World → List ℕ → List ℕ → Bool → Type 0
AreBegun world [] rest beside = Unit {0}
AreBegun world (at ∷ places) rest beside = IsBegun world at (drop 8 rest) (others_begin (length places) beside) × AreBegun world places (drop 8 rest) beside

-- A level is to get a list with a new entry: it has more than 64 and at most 128.
abbrev pub GetsList : Child → Type 0
GetsList Free = ⊥
GetsList (Tail rest) = ⊥
GetsList (Level keys words) = (64 < len words.map) × (len words.map ≤ 128)

-- ---- what a change of the arena leaves

-- A level that was there stays one, and the pieces that lead to it still lead there.
abbrev pub StaysLed : Arena → Arena → Type 0
StaysLed before after = (at told : ℕ) (was : ArrayOf word_order) → child_at before at ≡ Level told was →
    IsLevelChild (child_at after at) × ((front : List ℕ) → AreInner front → walk (world_of before) 0 front ≡ Some (suc at) → walk (world_of after) 0 front ≡ Some (suc at))

-- Of the levels on the way of a key that has gone those at some places are left, still the first ones, and each that is left stood there.
pub record AreLeft (before after : Arena) (key : List ℕ) (places : List ℕ) : Type 0 where
  pub count : ℕ
  pub are : places ≡ take count (levels_passed (world_of before) key)
  pub stays : StaysLed after before
  pub still : AreFirstPassed (world_of after) key places
  pub among : (at : ℕ) (map : FinMap word_order ℕ) (front rest : List ℕ) → world_of after (suc at) ≡ level map → AreInner front → walk (world_of after) 0 front ≡ Some (suc at) →
      pieces key ≡ front ++ rest → IsAmong places at
