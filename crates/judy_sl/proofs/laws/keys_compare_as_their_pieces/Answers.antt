use Rattle.std.proofs.Common.{sym}
use Rattle.judy_sl.proofs.lemmas.pieces.PieceLemmas.{text_of_key, order-pieces}
use Rattle.judy_sl.proofs.laws.keys_compare_as_their_pieces.Goals as goal

pub returns : goal.returns
returns c = λ one other is also. sym (order-pieces one other (text_of_key one is) (text_of_key other also))
