use Rattle.judy_laws.proofs.lemmas.ClosedLines.{closed_lines_and_rest}
use Rattle.judy_laws.proofs.laws.run_ends.bytes_are_closed_lines_and_a_rest.Goals as goal

pub returns : goal.returns
returns c = closed_lines_and_rest
