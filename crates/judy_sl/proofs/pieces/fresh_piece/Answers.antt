use Rattle.judy_records.specs.Texts.{first_word}
use Rattle.judy_sl.specs.Pieces.{piece_of}
use Rattle.judy_sl.proofs.pieces.fresh_piece.Goals as goal

pub returns : goal.returns
unfolding first_word piece_of
returns c = c.fresh_word.ensures
