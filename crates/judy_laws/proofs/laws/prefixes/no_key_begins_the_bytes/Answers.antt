use Rattle.judy_laws.proofs.lemmas.PrefixLemmas.{none_begins}
use Rattle.judy_laws.proofs.laws.prefixes.no_key_begins_the_bytes.Goals as goal

pub returns : goal.returns
returns c = none_begins
