use Rattle.std.proofs.Common.{ℕ, length}
use Rattle.judy_sl.specs.Pieces.{EndsWell}
use Rattle.judy_sl.specs.Ways.{IsOnWay}
use Rattle.judy_sl.specs.Arenas.{world_of, IsArena}
use Rattle.judy_sl.proofs.arena.Arena.get.Given as goal

abbrev pub invariant-loop-rest : goal.invariant-loop-rest
invariant-loop-rest l = record { seat : ℕ; on : IsOnWay (world_of l.self) l.key seat l.level.map l.rest; is_arena : IsArena l.self; ends : EndsWell l.key }

abbrev pub decreases-loop-rest : goal.decreases-loop-rest
decreases-loop-rest l = length l.rest
