use Rattle.std.proofs.Common.{ℕ, ◌-◌, length}
use Rattle.std.specs.FinMap.{FinMap}
use Rattle.judy_model.specs.Keys.{word_order}
use Rattle.judy_sl.specs.Arenas.{world_of}
use Rattle.judy_sl.specs.Runs.{LeadsToLevel}
use Rattle.judy_sl.proofs.lemmas.scans.RunWays.{OnWayTo}
use Rattle.judy_sl.proofs.arena.Arena.level_behind.Given as goal

abbrev pub invariant-loop-rest : goal.invariant-loop-rest
invariant-loop-rest l =
    (target : FinMap word_order ℕ) (leads : LeadsToLevel (world_of l.self) l.key l.depth target) → OnWayTo (world_of l.self) leads.front leads.seat target
    (length l.key - l.depth) l.level.map l.rest l.above.items l.known

abbrev pub decreases-loop-rest : goal.decreases-loop-rest
decreases-loop-rest l = length l.rest
