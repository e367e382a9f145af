use Rattle.std.proofs.Common.{subst}
use Rattle.judy_model.specs.DumpGrammar.{IsDump}
use Rattle.judy_model.specs.DumpText.{dump_of}
use Rattle.judy_model.proofs.lemmas.dumps.DumpLemmas.{one_store, dump_again}
use Rattle.judy_model.proofs.laws.dumps.one_dump_per_store.Goals as goal

pub returns : goal.returns
returns c = λ one_version other_version store other is regular other_is other_regular same.
    one_store one_version other_version (dump_of other_version other) store other (subst (λ dump. IsDump one_version dump store) same (dump_again one_version store is regular))
    (dump_again other_version other other_is other_regular)
