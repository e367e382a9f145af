use Rattle.judy_records.proofs.OrderLemmas.{order-words, words-same}
use Rattle.judy_records.proofs.laws.texts_compare_as_their_words.Goals as goal

pub returns : goal.returns
returns c = record { order = order-words; same = words-same }
