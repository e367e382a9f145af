use Rattle.std.proofs.Common.{rules}
use Rattle.judy_hs.proofs.group.GroupPlace.slot.Goals as goal

pub returns-in-Word : goal.returns-in-Word
returns-in-Word c = search rules
