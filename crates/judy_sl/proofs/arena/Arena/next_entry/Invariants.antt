use Rattle.std.proofs.Common.{length}
use Rattle.judy_sl.specs.Arenas.{world_of}
use Rattle.judy_sl.specs.Runs.{Stands}
use Rattle.judy_sl.proofs.arena.Arena.next_entry.Given as goal

abbrev pub invariant-levels : goal.invariant-levels
invariant-levels l = Stands (world_of l.self) l.key l.above.items l.run

abbrev pub decreases-levels : goal.decreases-levels
decreases-levels l = length l.above.items
