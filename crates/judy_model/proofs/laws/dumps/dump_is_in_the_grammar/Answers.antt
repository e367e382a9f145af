use Rattle.judy_model.proofs.lemmas.dumps.DumpLemmas.{dump_again}
use Rattle.judy_model.proofs.laws.dumps.dump_is_in_the_grammar.Goals as goal

pub returns : goal.returns
returns c = dump_again
