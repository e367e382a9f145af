use Rattle.std.specs.Fmt.{digits}
use Rattle.judy_model.proofs.lemmas.maps.MapsOfPairs.{words_computed}
use Rattle.judy_model.proofs.examples.commands.whole.list_of_words.Goals as goal

pub returns-clause-set_text : goal.returns-clause-set_text
unfolding digits
returns-clause-set_text c = simp words_computed

pub returns-clause-words_text : goal.returns-clause-words_text
unfolding digits
returns-clause-words_text c = simp words_computed
