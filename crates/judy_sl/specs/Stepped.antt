-- What a child becomes where a key is counted in behind it, or out, and how the way of a key goes on from a seat.
use Rattle.std.specs.Prelude.{ℕ, ◌<◌, ◌≤◌, ◌+◌, ◌-◌, Bool, true, false, Option, None}
use Rattle.std.specs.FinMap.{get}
use Rattle.judy_sl.specs.Children.{Child, Free, Tail, Level}
use Rattle.judy_sl.specs.World.{Node, gone, tail, level}

-- A number that is stepped: one more where a key comes, and one less where one goes.
abbrev pub stepped : Bool → ℕ → ℕ
stepped true keys = keys + 1
stepped false keys = keys - 1

-- The child with its number stepped, where it is a level.
abbrev pub child_stepped : Bool → Child → Child
child_stepped comes Free = Free
child_stepped comes (Tail rest) = Tail rest
child_stepped comes (Level keys words) = Level (stepped comes keys) words

-- One more fits 32 bits; and one less isn't below 0.
abbrev pub CanStep : Bool → ℕ → Type 0
CanStep true keys = keys < 4294967295
CanStep false keys = 1 ≤ keys

-- The number of a child can be stepped, where it is a level.
abbrev pub ChildCanStep : Bool → Child → Type 0
ChildCanStep comes Free = Unit {0}
ChildCanStep comes (Tail rest) = Unit {0}
ChildCanStep comes (Level keys words) = CanStep comes keys

-- What a level has under a piece; what is no level has nothing.
abbrev pub entry_under : Node → ℕ → Option ℕ
entry_under gone piece = None
entry_under (tail held value) piece = None
entry_under (level map) piece = get map piece
