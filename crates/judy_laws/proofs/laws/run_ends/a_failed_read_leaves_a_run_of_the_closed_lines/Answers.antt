use Rattle.std.proofs.Common.{IsTrue}
use Rattle.judy_laws.proofs.lemmas.ClosedLines.{at_read}
use Rattle.judy_laws.proofs.laws.run_ends.a_failed_read_leaves_a_run_of_the_closed_lines.Goals as goal

pub returns : goal.returns
returns c = λ before after max_bytes lines rest output at_end closed open_end. at_read before after max_bytes lines rest output (IsTrue at_end) closed open_end
