use Rattle.judy_model.proofs.lemmas.dumps.DumpLemmas.{dump_back}
use Rattle.judy_model.proofs.laws.dumps.grammar_gives_the_text.Goals as goal

pub returns : goal.returns
returns c = record {
  text = λ version dump store are is. (dump_back version dump store are is).0;
  store = λ version dump store are is. (dump_back version dump store are is).1;
  regular = λ version dump store are is. (dump_back version dump store are is).2;
}
