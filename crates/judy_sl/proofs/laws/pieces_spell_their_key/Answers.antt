use Rattle.judy_sl.proofs.lemmas.pieces.PieceLemmas.{text_of_key}
use Rattle.judy_sl.proofs.lemmas.pieces.PieceBytes.{spelling-pieces}
use Rattle.judy_sl.proofs.laws.pieces_spell_their_key.Goals as goal

pub returns : goal.returns
returns c = λ key is. spelling-pieces key (text_of_key key is)
