use Rattle.std.proofs.Common.{ℕ, suc, List, ◌-◌}
use Rattle.judy_tails.specs.Writers.{StaysBeyond, WasGiven}
use Rattle.judy_sl.specs.Arenas.{world_of}
use Rattle.judy_sl.specs.Nth.{KeysFit}
use Rattle.judy_sl.proofs.lemmas.places.NthWays.{OnNth}
use Rattle.judy_model.specs.declared.keys.TheConstants.{LONGEST_STRING}
use Rattle.judy_sl.proofs.arena.Arena.nth_behind.Given as goal

abbrev pub invariant-down : goal.invariant-down
invariant-down g l = record {
  way : (before : List ℕ) → KeysFit (world_of l.self) (suc l.child) before → g.K.KeyWriter.has l.fn.key before →
      WasGiven g.K.KeyWriter.has l.key (OnNth (world_of l.self) l.child l.place before l.at l.left);
  beyond : StaysBeyond g.K.KeyWriter.len g.K.KeyWriter.beyond l.fn.key l.key;
}

abbrev pub decreases-down : goal.decreases-down
decreases-down g l = LONGEST_STRING - g.K.KeyWriter.len l.key
