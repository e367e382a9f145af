use Rattle.std.proofs.Common.{◌≡◌, ℕ, List, ◌++◌, length}
use Rattle.judy_sl.specs.Pieces.{pieces}
use Rattle.judy_sl.specs.Arenas.{world_of, IsArena}
use Rattle.judy_sl.specs.Ways.{IsOnWay, seat_in, passed_from, levels_passed}
use Rattle.judy_sl.proofs.lemmas.removals.Cuts.{IsCutSoFar}
use Rattle.judy_sl.proofs.arena.Arena.find_cut.Given as goal

abbrev pub invariant-loop-rest : goal.invariant-loop-rest
invariant-loop-rest g l = record {
  on : IsOnWay (world_of l.self) l.key (seat_in l.child) l.level.map l.rest;
  so_far : IsCutSoFar (world_of l.self) l.key l.child l.rest l.cut;
  is_arena : IsArena l.self;
  noted : List ℕ;
  has : g.N.Notes.has l.notes noted;
  ahead : noted ++ passed_from (world_of l.self) (seat_in l.child) (pieces l.rest) ≡ levels_passed (world_of l.self) l.key;
  deep : l.depth ≡ length on.leads.front;
}

abbrev pub decreases-loop-rest : goal.decreases-loop-rest
decreases-loop-rest g l = length l.rest
