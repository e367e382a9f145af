use Rattle.judy_records.proofs.OrderLemmas.{order-long, same-long}
use Rattle.judy_records.proofs.laws.byte_strings_of_one_length_compare_as_their_words.Goals as goal

pub returns : goal.returns
returns c = record { order = order-long; same = same-long }
