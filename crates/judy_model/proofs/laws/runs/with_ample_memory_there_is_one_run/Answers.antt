use Rattle.judy_model.proofs.lemmas.runs.RunLaws.{Run-ample, Run-determined}
use Rattle.judy_model.proofs.laws.runs.with_ample_memory_there_is_one_run.Goals as goal

pub returns : goal.returns
returns c = record { there_is = Run-ample; one = Run-determined }
