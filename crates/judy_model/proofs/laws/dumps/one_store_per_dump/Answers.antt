use Rattle.judy_model.proofs.lemmas.dumps.DumpLemmas.{one_store, gives_exactly}
use Rattle.judy_model.proofs.laws.dumps.one_store_per_dump.Goals as goal

pub returns : goal.returns
returns c = record { one = one_store; exists = gives_exactly }
