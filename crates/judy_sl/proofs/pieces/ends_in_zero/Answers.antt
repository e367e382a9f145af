use Rattle.std.proofs.Common.{rules}
use Rattle.judy_sl.proofs.pieces.ends_in_zero.Goals as goal

pub returns-in-Some : goal.returns-in-Some
returns-in-Some c = search rules
