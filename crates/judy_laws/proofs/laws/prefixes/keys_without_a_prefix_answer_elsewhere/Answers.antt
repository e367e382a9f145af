use Rattle.judy_laws.proofs.lemmas.PrefixLemmas.{without_answers}
use Rattle.judy_laws.proofs.laws.prefixes.keys_without_a_prefix_answer_elsewhere.Goals as goal

pub returns : goal.returns
returns c = without_answers
