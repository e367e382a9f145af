-- Tails that go to other places, while the keys and their values stay.
use Rattle.std.specs.Prelude.{◌≡◌, ℕ, suc, true, List, Some, length}
use Rattle.std.specs.FinMap.{FinMap, get}
use Rattle.judy_model.specs.Keys.{word_order}
use Rattle.judy_tails.specs.Tails.{HasFree}
use Rattle.judy_sl.specs.declared.arena.Arena.{Arena}
use Rattle.judy_sl.specs.declared.arena.Place.{Place}
use Rattle.judy_sl.specs.Pieces.{IsInner}
use Rattle.judy_sl.specs.Children.{Tail, is_level, IsLevelChild}
use Rattle.judy_sl.specs.World.{level}
use Rattle.judy_sl.specs.WorldInvariants.{AllLed}
use Rattle.judy_sl.specs.Arenas.{world_of, child_at, map_of, IsArena}
use Rattle.judy_sl.specs.Ways.{seat_of, piece_at}
use Rattle.judy_sl.specs.Behind.{map_behind}
use Rattle.judy_sl.specs.Counted.{AreCounted}

-- The entry at a place of a level leads to the child at another.
pub record IsEntry (arena : Arena) (from : Place) (at : ℕ) : Type 0 where
  pub map : FinMap word_order ℕ
  pub is_level : world_of arena (seat_of from) ≡ level map
  pub inner : IsInner (piece_at from)
  pub entry : get map (piece_at from) ≡ Some at

-- A tail stands at a place, and beside it or another one as long a place is free.
pub record HasFreeFor (arena : Arena) (at : ℕ) : Type 0 where
  pub rest : List ℕ × ℕ
  pub stands : child_at arena at ≡ Tail rest
  pub free : HasFree arena.tails (length rest.0)

-- What an arena of an array keeps.
pub record IsKept (arena : Arena) : Type 0 where
  pub is_arena : IsArena arena
  pub led : AllLed (world_of arena)
  pub counted : AreCounted arena

-- Tails may stand at other places, and all else stays: each key its value, each level at its place, and behind each level its keys.
pub record IsSettled (before after : Arena) : Type 0 where
  pub kept : IsKept after
  pub same : map_of after ≡ map_of before
  pub levels : (at : ℕ) → IsLevelChild (child_at before at) → IsLevelChild (child_at after at)
  pub behind : (at : ℕ) → is_level at ≡ true → map_behind (world_of after) (suc at) ≡ map_behind (world_of before) (suc at)
