use Rattle.judy_laws.proofs.lemmas.PrefixLemmas.{prefix_counts}
use Rattle.judy_laws.proofs.laws.prefixes.both_are_all_keys.Goals as goal

pub returns : goal.returns
returns c = prefix_counts
