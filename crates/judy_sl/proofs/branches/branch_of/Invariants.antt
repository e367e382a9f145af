use Rattle.std.proofs.Common.{length}
use Rattle.judy_sl.proofs.lemmas.pieces.Branching.{IsCommon}
use Rattle.judy_sl.proofs.branches.branch_of.Given as goal

abbrev pub invariant-loop-piece : goal.invariant-loop-piece
invariant-loop-piece l = IsCommon l.tail l.key l.upper.items l.held l.rest

abbrev pub decreases-loop-piece : goal.decreases-loop-piece
decreases-loop-piece l = length l.rest
