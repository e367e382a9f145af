use Rattle.std.proofs.Common.{refl, sym}
use Rattle.judy_model.specs.DumpExamples.{set_of_one, dump_of_one}
use Rattle.judy_model.specs.DumpText.{jdy1}
use Rattle.judy_model.proofs.lemmas.dumps.DumpLemmas.{bytes_are, dump_back}
use Rattle.judy_model.proofs.dump_examples.smallest_dumps.Goals as goal

-- The bytes give the store, and so are its dump.
pub returns-clause-one : goal.returns-clause-one
returns-clause-one c = sym (dump_back jdy1 dump_of_one set_of_one (bytes_are dump_of_one refl) refl).0
