use Rattle.judy_model.proofs.lemmas.orders.ByteLemmas.{number_of-lt, low_bytes-number_of}
use Rattle.judy_model.proofs.laws.bytes.bytes_spell_one_number.Goals as goal

pub returns : goal.returns
returns c = record { fits = number_of-lt; bytes = low_bytes-number_of }
