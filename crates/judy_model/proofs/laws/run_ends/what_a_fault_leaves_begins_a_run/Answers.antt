use Rattle.std.proofs.Common.{IsTrue}
use Rattle.judy_model.proofs.lemmas.runs.EndLemmas.{LeftBy-goes_on}
use Rattle.judy_model.proofs.laws.run_ends.what_a_fault_leaves_begins_a_run.Goals as goal

pub returns : goal.returns
returns c = λ before after max_bytes given output at_end fault left. LeftBy-goes_on before max_bytes given (IsTrue at_end) output after fault left
