use Rattle.judy_model.specs.Stores.{IsStore, IsRegular}
use Rattle.judy_model.proofs.lemmas.runs.StoresKept.{IsStore-lasts, IsRegular-lasts, CutOff-lasts}
use Rattle.judy_model.proofs.laws.stores.a_cut_off_run_keeps_a_store.Goals as goal

pub returns : goal.returns
returns c = record { store = CutOff-lasts IsStore IsStore-lasts; regular = CutOff-lasts IsRegular IsRegular-lasts }
