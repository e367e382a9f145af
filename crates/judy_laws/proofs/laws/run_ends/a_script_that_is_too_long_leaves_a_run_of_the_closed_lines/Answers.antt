use Rattle.std.proofs.Common.{IsTrue}
use Rattle.judy_laws.proofs.lemmas.ClosedLines.{at_most}
use Rattle.judy_laws.proofs.laws.run_ends.a_script_that_is_too_long_leaves_a_run_of_the_closed_lines.Goals as goal

pub returns : goal.returns
returns c = λ before after max_bytes lines rest more output at_end closed open_end long. at_most before after max_bytes lines rest output (IsTrue at_end) closed open_end more long
