use Rattle.std.proofs.Common.{refl, sym}
use Rattle.judy_model.specs.DumpExamples.{three_arrays, dump_of_three}
use Rattle.judy_model.specs.DumpText.{jdy1}
use Rattle.judy_model.proofs.lemmas.dumps.DumpLemmas.{bytes_are, dump_back}
use Rattle.judy_model.proofs.dump_examples.store_of_three.Goals as goal

-- The bytes give the store, and so are its dump.
pub returns-clause-text : goal.returns-clause-text
returns-clause-text c = sym (dump_back jdy1 dump_of_three three_arrays (bytes_are dump_of_three refl) refl).0
