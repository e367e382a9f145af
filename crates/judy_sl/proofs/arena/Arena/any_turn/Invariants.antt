use Rattle.std.proofs.Common.{◌≡◌, length}
use Rattle.judy_sl.specs.Arenas.{world_of}
use Rattle.judy_sl.specs.Pieces.{piece_of}
use Rattle.judy_sl.proofs.lemmas.scans.ScanWays.{OnTurn}
use Rattle.judy_sl.proofs.arena.Arena.any_turn.Given as goal

abbrev pub invariant-loop-rest : goal.invariant-loop-rest
invariant-loop-rest l = record {
  on : OnTurn l.look (world_of l.self) l.key l.child l.level.map l.rest l.turn;
  piece : l.piece ≡ piece_of l.rest;
}

abbrev pub decreases-loop-rest : goal.decreases-loop-rest
decreases-loop-rest l = length l.rest
