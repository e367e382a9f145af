use Rattle.std.proofs.Common.{◌≡◌, ℕ, List, ◌++◌, length}
use Rattle.judy_sl.specs.Pieces.{pieces, EndsWell}
use Rattle.judy_sl.specs.Arenas.{world_of, IsArena}
use Rattle.judy_sl.specs.Ways.{IsOnWay, seat_in, left_of, passed_from}
use Rattle.judy_sl.proofs.arena.Arena.walk_on.Given as goal

abbrev pub invariant-loop-rest : goal.invariant-loop-rest
invariant-loop-rest g l = record {
  on : IsOnWay (world_of l.self) l.key (seat_in l.child) l.level.map l.rest;
  is_arena : IsArena l.self;
  ends : EndsWell l.key;
  noted : List ℕ;
  has : g.N.Notes.has l.notes noted;
  left : noted ++ passed_from (world_of l.self) (seat_in l.child) (pieces l.rest) ≡ passed_from (world_of l.self) (seat_in l.fn.under) (pieces (left_of l.key l.left));
}

abbrev pub decreases-loop-rest : goal.decreases-loop-rest
decreases-loop-rest g l = length l.rest
