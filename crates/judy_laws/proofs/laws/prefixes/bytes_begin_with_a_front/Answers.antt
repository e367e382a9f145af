use Rattle.judy_laws.proofs.lemmas.PrefixLemmas.{begins_with_a_front}
use Rattle.judy_laws.proofs.laws.prefixes.bytes_begin_with_a_front.Goals as goal

pub returns : goal.returns
returns c = begins_with_a_front
