use Rattle.std.proofs.Common.{refl}
use Rattle.judy_records.specs.Texts.{first_word}
use Rattle.judy_records.proofs.laws.some_texts_in_words.Goals as goal

pub returns : goal.returns
unfolding first_word
returns c = record { empty = refl; short = refl; zeros = refl; back = refl; back_with_zeros = refl; back_long = refl; long = refl }
