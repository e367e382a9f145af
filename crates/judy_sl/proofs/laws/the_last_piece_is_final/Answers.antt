use Rattle.judy_sl.proofs.lemmas.pieces.PieceLemmas.{text_of_key, pieces_are}
use Rattle.judy_sl.proofs.laws.the_last_piece_is_final.Goals as goal

pub returns : goal.returns
returns c = λ key is. pieces_are key (text_of_key key is)
