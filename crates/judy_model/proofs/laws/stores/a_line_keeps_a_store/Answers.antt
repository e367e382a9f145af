use Rattle.judy_model.specs.Stores.{IsStore, IsRegular}
use Rattle.judy_model.proofs.lemmas.runs.StoresKept.{IsStore-lasts, IsRegular-lasts, Step-lasts}
use Rattle.judy_model.proofs.laws.stores.a_line_keeps_a_store.Goals as goal

pub returns : goal.returns
returns c = record {
  store = λ before after line reply is step. Step-lasts IsStore IsStore-lasts before is line reply after step;
  regular = λ before after line reply is step. Step-lasts IsRegular IsRegular-lasts before is line reply after step;
}
