use Rattle.judy_model.proofs.lemmas.orders.ByteLemmas.{order-low_bytes}
use Rattle.judy_model.proofs.laws.bytes.words_compare_as_their_bytes.Goals as goal

pub returns : goal.returns
returns c = record { words = order-low_bytes 8; numbers = order-low_bytes }
