use Rattle.std.proofs.Common.{◌≡◌, length}
use Rattle.judy_model.specs.Keys.{byte_order}
use Rattle.judy_sl.specs.Pieces.{IsText}
use Rattle.judy_sl.proofs.sorted.is_below.Given as goal

-- what is left of the two compares as they do
abbrev pub invariant-pieces : goal.invariant-pieces
invariant-pieces l = record {
  left : IsText l.left;
  right : IsText l.right;
  same : byte_order l.left l.right ≡ byte_order l.one l.other;
}

abbrev pub decreases-pieces : goal.decreases-pieces
decreases-pieces l = length l.left
