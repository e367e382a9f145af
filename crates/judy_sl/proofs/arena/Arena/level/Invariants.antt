use Rattle.std.proofs.Common.{length}
use Rattle.judy_sl.specs.Arenas.{world_of}
use Rattle.judy_sl.proofs.lemmas.seats.LevelLemmas.{OnLevel}
use Rattle.judy_sl.proofs.arena.Arena.level.Given as goal

abbrev pub invariant-loop-rest : goal.invariant-loop-rest
invariant-loop-rest l = OnLevel (world_of l.self) l.at l.level.map l.rest

abbrev pub decreases-loop-rest : goal.decreases-loop-rest
decreases-loop-rest l = length l.rest
