use Rattle.judy_model.proofs.lemmas.runs.RunLaws.{Run-append}
use Rattle.judy_model.proofs.laws.runs.runs_follow_one_another.Goals as goal

pub returns : goal.returns
returns c = Run-append
