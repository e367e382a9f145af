-- The levels and tails of an array, place by place.
use Rattle.std.specs.Prelude.{◌≡◌, ◌≤◌, ◌^◌, ◌/◌, ℕ, zero, suc, cond, List, Some, length}
use Rattle.std.specs.FinMap.{FinMap, get, len}
use Rattle.judy_model.specs.Keys.{byte_order}
use Rattle.judy_model.specs.Arrays.{ArrayOf}
use Rattle.judy_model.specs.Tables.{table}
use Rattle.judy_model.specs.declared.keys.TheConstants.{LONGEST_KEY}
use Rattle.judy_tails.specs.Tails.{tail_at}
use Rattle.slab.specs.Slab as slab
use Rattle.judy_sl.specs.Children.{Child, Free, Tail, Level, is_level, level_child, tail_child}
use Rattle.judy_sl.specs.declared.arena.Arena.{Arena}
use Rattle.judy_sl.specs.Strings.{all_strings}
use Rattle.judy_sl.specs.Pieces.{pieces, IsText}
use Rattle.judy_sl.specs.World.{World, Node, gone, tail, level, lookup}
use Rattle.judy_sl.specs.WorldInvariants.{IsWorld, AllLed}

-- What stands at a place: its lowest byte tells whether it is one for levels or for tails.
abbrev pub child_at : Arena → ℕ → Child
child_at arena at = cond (is_level at) (level_child (slab.get arena.levels (at / 256))) (tail_child (tail_at arena.tails at))

-- What a child is.
abbrev pub node_of : Child → Node
node_of Free = gone
node_of (Tail rest) = tail (pieces rest.0) rest.1
node_of (Level keys words) = level words.map

-- What each seat has: the first level, and then the children in turn.
abbrev pub world_of : Arena → World
world_of arena zero = level arena.root.map
world_of arena (suc at) = node_of (child_at arena at)

-- The bytes of a tail hold no zero.
abbrev pub HasText : Child → Type 0
HasText Free = Unit {0}
HasText (Tail rest) = IsText rest.0
HasText (Level keys words) = Unit {0}

-- What always holds of them.
pub record IsArena (arena : Arena) : Type 0 where
  pub behind : ℕ → List ℕ
  pub is_world : IsWorld (world_of arena) behind
  pub texts : (at : ℕ) → HasText (child_at arena at)

-- There is room for so many more levels, and the place of each is a word.
pub record HasRoom (arena : Arena) (more : ℕ) : Type 0 where
  pub fits : slab.HasRoomFor arena.levels more
  pub few : arena.levels.capacity ≤ 2 ^ 55

-- The map that they are.
abbrev pub map_of : Arena → FinMap byte_order ℕ
map_of arena = table all_strings (λ key. lookup (world_of arena) 0 (pieces key))

-- The array that they are, under a limit.
abbrev pub array_of : ℕ → Arena → ArrayOf byte_order
array_of limit arena = record { limit = limit; map = map_of arena }

-- No key has more than so many bytes.
abbrev pub AreWithin : ℕ → FinMap byte_order ℕ → Type 0
AreWithin longest map = (key : List ℕ) (value : ℕ) → get map key ≡ Some value → length key ≤ longest

-- None has more than 1,024.
abbrev pub AreShort : FinMap byte_order ℕ → Type 0
AreShort map = AreWithin LONGEST_KEY map

-- What always holds of an array whose keys may have so many bytes, `most`: it keeps nothing to which no entry leads, and it counts its keys.
pub record IsStrings (most longest limit count : ℕ) (arena : Arena) : Type 0 where
  pub is_arena : IsArena arena
  pub led : AllLed (world_of arena)
  pub counted : count ≡ len (map_of arena)
  pub within_limit : count ≤ limit
  pub holds_some : 1 ≤ limit
  pub limit_fits : limit ≤ 4294967295
  pub short : AreWithin longest (map_of arena)
  pub longest_fits : longest ≤ most
