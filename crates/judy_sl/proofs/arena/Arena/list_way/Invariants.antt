-- So many levels are left, and the lists of those before are right.
use Rattle.std.proofs.Common.{◌≡◌, ℕ, true, List, length}
use Rattle.judy_sl.specs.Arenas.{world_of}
use Rattle.judy_sl.specs.Ways.{seat_in}
use Rattle.judy_sl.specs.Listed.{AreListedBut, AreBegun}
use Rattle.judy_sl.proofs.lemmas.counts.WayLevels.{AreAlong}
use Rattle.judy_sl.proofs.arena.Arena.list_way.Given as goal

abbrev pub invariant-levels : goal.invariant-levels
invariant-levels l = record {
  places : List ℕ;
  many : length places ≡ l.left;
  along : AreAlong (world_of l.self) (seat_in l.child) places l.rest;
  but : AreListedBut l.comes l.self l.lists places l.rest;
  begun : l.comes ≡ true → AreBegun (world_of l.self) places l.rest l.beside;
}

abbrev pub decreases-levels : goal.decreases-levels
decreases-levels l = l.left
