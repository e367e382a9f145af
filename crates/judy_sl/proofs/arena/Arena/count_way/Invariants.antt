-- So many levels are left, and those before are stepped.
use Rattle.std.proofs.Common.{◌≡◌, ℕ, List, length, take}
use Rattle.judy_sl.specs.Arenas.{world_of}
use Rattle.judy_sl.specs.Ways.{seat_in, levels_passed}
use Rattle.judy_sl.proofs.lemmas.counts.Stepping.{IsStepping}
use Rattle.judy_sl.proofs.lemmas.counts.WayLevels.{AreAlong}
use Rattle.judy_sl.proofs.arena.Arena.count_way.Given as goal

abbrev pub invariant-levels : goal.invariant-levels
invariant-levels l = record {
  places : List ℕ;
  many : length places ≡ l.left;
  along : AreAlong (world_of l.self) (seat_in l.child) places l.rest;
  stepping : IsStepping l.comes l.fn.self l.self places (take l.count (levels_passed (world_of l.fn.self) l.key));
}

abbrev pub decreases-levels : goal.decreases-levels
decreases-levels l = l.left
