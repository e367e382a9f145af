use Rattle.judy_model.specs.Stores.{IsStore, IsRegular}
use Rattle.judy_model.proofs.lemmas.runs.StoresKept.{IsStore-lasts, IsRegular-lasts, Run-lasts}
use Rattle.judy_model.proofs.laws.stores.a_run_keeps_a_store.Goals as goal

pub returns : goal.returns
returns c = record { store = Run-lasts IsStore IsStore-lasts; regular = Run-lasts IsRegular IsRegular-lasts }
