use Rattle.std.proofs.Common.{[]}
use Rattle.judy_model.specs.Stores.{IsStore, IsRegular}
use Rattle.judy_model.proofs.lemmas.runs.StoresKept.{IsStore-lasts, IsRegular-lasts, IsStore-none, IsRegular-none, Run-lasts}
use Rattle.judy_model.proofs.laws.stores.a_script_makes_a_store.Goals as goal

pub returns-clause-none : goal.returns-clause-none
returns-clause-none c = (IsStore-none, IsRegular-none)

pub returns-clause-made : goal.returns-clause-made
returns-clause-made c = λ script output after run.
    (Run-lasts IsStore IsStore-lasts [] after script output IsStore-none run, Run-lasts IsRegular IsRegular-lasts [] after script output IsRegular-none run)
