use Rattle.judy_model.proofs.lemmas.runs.WholeLines.{whole_lines-split, whole_lines-only}
use Rattle.judy_model.proofs.laws.whole_lines.a_script_is_its_whole_lines_and_a_rest.Goals as goal

pub returns : goal.returns
returns c = record { split = whole_lines-split; only = whole_lines-only }
