use Rattle.std.proofs.Common.{ℕ, List, ◌-◌}
use Rattle.judy_tails.specs.Writers.{StaysBeyond, WasGiven}
use Rattle.judy_sl.specs.Arenas.{world_of}
use Rattle.judy_sl.specs.Scans.{IsBegun}
use Rattle.judy_sl.proofs.lemmas.scans.ScanEnds.{Following}
use Rattle.judy_model.specs.declared.keys.TheConstants.{LONGEST_STRING}
use Rattle.judy_sl.proofs.arena.Arena.follow.Given as goal

abbrev pub invariant-loop-piece : goal.invariant-loop-piece
invariant-loop-piece g l = record {
  way : (from : List ℕ) → IsBegun l.look (world_of l.self) l.fn.turn g.K.KeyWriter.has l.fn.key from →
      WasGiven g.K.KeyWriter.has l.key (Following l.look (world_of l.self) from l.child l.piece l.value);
  beyond : StaysBeyond g.K.KeyWriter.len g.K.KeyWriter.beyond l.fn.key l.key;
}

abbrev pub decreases-loop-piece : goal.decreases-loop-piece
decreases-loop-piece g l = LONGEST_STRING - g.K.KeyWriter.len l.key
