-- How many nodes a call enters at most. The keys of a node have fewer bytes than those of the node above it.
use Rattle.std.specs.Prelude.{ℕ, ◌+◌}

-- One way down from the root, whose keys have eight bytes.
abbrev pub most_visits_down : ℕ
most_visits_down = 8

-- One way down from a child of a branch, whose keys have at most seven.
abbrev pub most_visits_below : ℕ
most_visits_below = 7

-- One way down, and from a child beside it down once more.
abbrev pub most_visits_near : ℕ
most_visits_near = most_visits_down + most_visits_below
