use Rattle.judy_laws.proofs.lemmas.TooLongLines.{step-too_long, too_long-step}
use Rattle.judy_laws.proofs.laws.lines.exactly_the_lines_over_4096_bytes_are_too_long.Goals as goal

pub returns : goal.returns
returns c = record { refused = step-too_long; no_other = too_long-step }
