use Rattle.judy_laws.proofs.lemmas.PrefixLemmas.{beginning_answers}
use Rattle.judy_laws.proofs.laws.prefixes.keys_with_a_prefix_answer_as_the_map.Goals as goal

pub returns : goal.returns
returns c = beginning_answers
