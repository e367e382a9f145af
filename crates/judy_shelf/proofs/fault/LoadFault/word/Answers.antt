use Rattle.std.proofs.Common.{rules}
use Rattle.judy_shelf.proofs.fault.LoadFault.word.Goals as goal

pub returns-in-Truncated : goal.returns-in-Truncated
returns-in-Truncated c = search rules
