use Rattle.std.proofs.Common.{refl}
use Rattle.judy_sl.specs.Pieces.{piece_of, pieces}
use Rattle.judy_sl.proofs.laws.some_keys_in_pieces.Goals as goal

pub returns : goal.returns
unfolding piece_of pieces
returns c = record { empty = refl; three = refl; seven = refl; eight = refl; nine = refl }
