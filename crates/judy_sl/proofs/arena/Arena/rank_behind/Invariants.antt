-- What counts so far, and what counts behind the child that the way has come to.
use Rattle.std.proofs.Common.{◌≡◌, suc, ◌+◌, length}
use Rattle.judy_sl.specs.Pieces.{IsText}
use Rattle.judy_sl.specs.Children.{IsTaken}
use Rattle.judy_sl.specs.Arenas.{world_of, child_at}
use Rattle.judy_sl.specs.Behind.{map_behind}
use Rattle.judy_sl.specs.Counted.{ranked}
use Rattle.judy_sl.proofs.arena.Arena.rank_behind.Given as goal

abbrev pub invariant-loop-level : goal.invariant-loop-level
invariant-loop-level l = record {
  text : IsText l.rest;
  there : IsTaken (child_at l.self l.at);
  whole : l.lesser + ranked l.itself (map_behind (world_of l.self) (suc l.at)) l.rest ≡ ranked l.itself (map_behind (world_of l.self) (suc l.child)) l.key;
}

abbrev pub decreases-loop-level : goal.decreases-loop-level
decreases-loop-level l = length l.rest
