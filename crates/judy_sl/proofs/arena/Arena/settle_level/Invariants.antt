use Rattle.std.proofs.Common.{◌≡◌, ℕ, Some}
use Rattle.judy_sl.specs.Arenas.{world_of}
use Rattle.judy_sl.specs.Places.{IsLevelPlace}
use Rattle.judy_sl.specs.Ways.{seat_in, place_in}
use Rattle.judy_sl.specs.Settled.{IsSettled}
use Rattle.judy_sl.proofs.lemmas.moves.Settled.{StandsIn}
use Rattle.judy_sl.proofs.arena.Arena.settle_level.Given as goal

abbrev pub invariant-entries : goal.invariant-entries
invariant-entries l = record {
  settled : IsSettled l.fn.self l.self;
  there : IsLevelPlace l.self (place_in l.child 0);
  next : (entry : ℕ × ℕ) → l.next ≡ Some entry → StandsIn (world_of l.self) (seat_in l.child) entry;
}
