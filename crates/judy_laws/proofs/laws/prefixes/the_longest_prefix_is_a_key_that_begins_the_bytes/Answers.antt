use Rattle.judy_laws.proofs.lemmas.PrefixLemmas.{longest_begins}
use Rattle.judy_laws.proofs.laws.prefixes.the_longest_prefix_is_a_key_that_begins_the_bytes.Goals as goal

pub returns : goal.returns
returns c = longest_begins
