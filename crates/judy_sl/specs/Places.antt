-- What an arena becomes, for whatever is left in a slot of it.
use Rattle.std.specs.Prelude.{ℕ, ◌/◌, Option}
use Rattle.std.specs.Borrow.{Lends, LendsIf, MutBor, Fml, u64}
use Rattle.std.specs.FinMap.{get}
use Rattle.judy_word.specs.Writes.{with_value}
use Rattle.slab.specs.Slab as slab
use Rattle.judy_tails.specs.Tails.{with_tail}
use Rattle.judy_sl.specs.declared.arena.Arena.{Arena}
use Rattle.judy_sl.specs.declared.arena.Place.{Place}
use Rattle.judy_sl.specs.declared.arena.Place.TheVariants.{Root, Below}
use Rattle.judy_sl.specs.contracts.arena.Arena.{the_row}
use Rattle.judy_sl.specs.Children.{Child, Free, Tail, Level, child_with, value_at, IsTaken, IsLevelChild}
use Rattle.judy_sl.specs.Arenas.{child_at}

-- The arena with another child of the same kind at a place where one stands.
abbrev pub with_child : Arena → ℕ → Child → Arena
with_child arena at Free = arena
with_child arena at (Tail rest) = record arena { tails = with_tail arena.tails at rest }
with_child arena at (Level keys words) = record arena { levels = slab.with_value arena.levels (at / 256) (record { keys = keys; words = words }) }

-- The arena with a value written at a place.
abbrev pub place_with : Arena → Place → ℕ → Arena
place_with arena (Root piece) value = record arena { root = with_value arena.root piece value }
place_with arena (Below at piece) value = with_child arena at (child_with (child_at arena at) piece value)

-- The value at a place.
abbrev pub place_value : Arena → Place → Option ℕ
place_value arena (Root piece) = get arena.root.map piece
place_value arena (Below at piece) = value_at (child_at arena at) piece

-- The arena ends with the value that is left behind the slot written at the place, where there is a slot.
abbrev pub LendsPlace : MutBor Arena → Place → Option (MutBor ℕ) → Fml
LendsPlace arena place slot = LendsIf the_row u64 arena slot (place_with arena.now place) arena.now

-- The same where the value is there.
abbrev pub LendsHere : MutBor Arena → Place → MutBor ℕ → Fml
LendsHere arena place slot = Lends the_row u64 arena slot (place_with arena.now place)

-- Something stands at the place.
abbrev pub IsPlace : Arena → Place → Type 0
IsPlace arena (Root piece) = Unit {0}
IsPlace arena (Below at piece) = IsTaken (child_at arena at)

-- A level stands at the place.
abbrev pub IsLevelPlace : Arena → Place → Type 0
IsLevelPlace arena (Root piece) = Unit {0}
IsLevelPlace arena (Below at piece) = IsLevelChild (child_at arena at)
