use Rattle.std.proofs.Common.{ℕ, List, ◌-◌}
use Rattle.judy_tails.specs.Writers.{StaysBeyond, WasGiven}
use Rattle.judy_sl.specs.Arenas.{world_of}
use Rattle.judy_sl.specs.Runs.{IsBegunAbove}
use Rattle.judy_sl.proofs.lemmas.scans.RunWays.{Climbing}
use Rattle.judy_model.specs.declared.keys.TheConstants.{LONGEST_STRING}
use Rattle.judy_sl.proofs.arena.Arena.climb.Given as goal

abbrev pub invariant-loop-piece : goal.invariant-loop-piece
invariant-loop-piece g l = record {
  way : (from : List ℕ) → IsBegunAbove l.itself (world_of l.self) l.fn.entry l.fn.above.items l.fn.last g.K.KeyWriter.has l.fn.key from →
      WasGiven g.K.KeyWriter.has l.key (λ bytes.
      Climbing l.itself (world_of l.self) from l.piece l.value bytes l.above.items l.last.run.level.now.map l.last.run.entries l.last.known);
  beyond : StaysBeyond g.K.KeyWriter.len g.K.KeyWriter.beyond l.fn.key l.key;
}

abbrev pub decreases-loop-piece : goal.decreases-loop-piece
decreases-loop-piece g l = LONGEST_STRING - g.K.KeyWriter.len l.key
