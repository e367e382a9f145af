use Rattle.judy_model.specs.Lines.{lines_of}
use Rattle.judy_model.proofs.lemmas.runs.RemainingLemmas.{Steps-remaining, Run-remaining}
use Rattle.judy_model.proofs.laws.remaining.refused_lines_drop_out.Goals as goal

pub returns : goal.returns
returns c = record { lines = λ before after script output run. Steps-remaining before after (lines_of script) run.0 run.1; script = Run-remaining }
