use Rattle.judy_model.proofs.lemmas.runs.WholeLines.{ended-are_whole_lines, unended-are_whole_lines}
use Rattle.judy_model.proofs.laws.whole_lines.an_lf_ends_whole_lines.Goals as goal

pub returns-clause-ended : goal.returns-clause-ended
returns-clause-ended c = ended-are_whole_lines

pub returns-clause-unended : goal.returns-clause-unended
returns-clause-unended c = unended-are_whole_lines
