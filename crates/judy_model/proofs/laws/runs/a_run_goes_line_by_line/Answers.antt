use Rattle.judy_model.proofs.lemmas.runs.RunLaws.{Run-none, Run-one}
use Rattle.judy_model.proofs.laws.runs.a_run_goes_line_by_line.Goals as goal

pub returns : goal.returns
returns c = record { none = Run-none; one = Run-one }
