use Rattle.judy_model.proofs.lemmas.runs.RunLaws.{CutOff-RanInto, RanInto-CutOff, CutOff-goes_on}
use Rattle.judy_model.proofs.laws.runs.a_cut_off_run_ends_in_an_answer.Goals as goal

pub returns : goal.returns
returns c = record {
  ends = λ before after script output. (CutOff-RanInto before script output after, RanInto-CutOff before script output after);
  goes_on = λ before after script output. CutOff-goes_on before script output after;
}
