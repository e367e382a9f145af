use Rattle.std.proofs.Common.{refl, sym}
use Rattle.judy_model.specs.DumpOrder.{two_lengths, shorter_first}
use Rattle.judy_model.specs.DumpText.{jdy1}
use Rattle.judy_model.proofs.lemmas.dumps.DumpLemmas.{bytes_are, dump_back}
use Rattle.judy_model.proofs.examples.dump_order.shorter_keys_come_first.Goals as goal

pub returns-clause-text : goal.returns-clause-text
returns-clause-text c = sym (dump_back jdy1 shorter_first two_lengths (bytes_are shorter_first refl) refl).0
