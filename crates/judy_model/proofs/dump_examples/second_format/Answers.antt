use Rattle.std.proofs.Common.{refl, sym}
use Rattle.judy_model.specs.DumpExamples.{three_prefixes, first_dump_of_prefixes, second_dump_of_prefixes}
use Rattle.judy_model.specs.DumpText.{jdy1, jdy2}
use Rattle.judy_model.proofs.lemmas.dumps.DumpLemmas.{bytes_are, dump_back}
use Rattle.judy_model.proofs.dump_examples.second_format.Goals as goal

-- The bytes give the store, and so are its dump.
pub returns-clause-first : goal.returns-clause-first
returns-clause-first c = sym (dump_back jdy1 first_dump_of_prefixes three_prefixes (bytes_are first_dump_of_prefixes refl) refl).0

pub returns-clause-second : goal.returns-clause-second
returns-clause-second c = sym (dump_back jdy2 second_dump_of_prefixes three_prefixes (bytes_are second_dump_of_prefixes refl) refl).0
