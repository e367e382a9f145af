use Rattle.judy_laws.proofs.lemmas.WordRanges.{filled_counts, flipped_counts}
use Rattle.judy_laws.proofs.laws.ranges.empty_words_are_added.Goals as goal

pub returns : goal.returns
returns c = record { filled = filled_counts; flipped = flipped_counts }
