-- As many keys stand between what is left of both behind the child that the way has come to.
use Rattle.std.proofs.Common.{◌≡◌, suc, ◌-◌, true, false, length}
use Rattle.judy_sl.specs.Pieces.{IsText}
use Rattle.judy_sl.specs.Children.{IsTaken}
use Rattle.judy_sl.specs.Arenas.{world_of, child_at}
use Rattle.judy_sl.specs.Behind.{map_behind}
use Rattle.judy_sl.specs.Counted.{ranked}
use Rattle.judy_sl.proofs.arena.Arena.count_behind.Given as goal

abbrev pub invariant-down : goal.invariant-down
invariant-down l = record {
  low : IsText l.low;
  high : IsText l.high;
  there : IsTaken (child_at l.self l.at);
  same : ranked true (map_behind (world_of l.self) (suc l.child)) l.to - ranked false (map_behind (world_of l.self) (suc l.child)) l.from
      ≡ ranked true (map_behind (world_of l.self) (suc l.at)) l.high - ranked false (map_behind (world_of l.self) (suc l.at)) l.low;
}

abbrev pub decreases-down : goal.decreases-down
decreases-down l = length l.low
