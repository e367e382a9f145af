use Rattle.std.proofs.Common.{◌≡◌, ◌+◌, take}
use Rattle.std.specs.FinMap.{len}
use Rattle.judy_word.specs.Held.{map_in, with_all}
use Rattle.judy_word.proofs.tree_array.TreeArray.room_beside.Given as goal

-- so many more than with the pairs so far
abbrev pub invariant-pairs : goal.invariant-pairs
invariant-pairs g l = l.room + len (with_all (map_in l.self) (take l.key-index l.pairs)) ≡ l.self.limit
