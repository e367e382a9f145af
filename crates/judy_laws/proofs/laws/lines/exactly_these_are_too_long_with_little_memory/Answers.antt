use Rattle.judy_laws.proofs.lemmas.TooLongLines.{Step-too_long, too_long-Step}
use Rattle.judy_laws.proofs.laws.lines.exactly_these_are_too_long_with_little_memory.Goals as goal

pub returns : goal.returns
returns c = record { refused = Step-too_long; no_other = too_long-Step }
