use Rattle.std.proofs.Common.{length}
use Rattle.judy_change.proofs.settle.+behind_bytes.Given as goal

abbrev pub decreases-behind_bytes : goal.decreases-behind_bytes
decreases-behind_bytes g l = length l.bytes.now
