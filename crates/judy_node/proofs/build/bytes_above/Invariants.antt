use Rattle.std.proofs.Common.{length}
use Rattle.judy_node.proofs.build.bytes_above.Given as goal

abbrev pub decreases-strides : goal.decreases-strides
decreases-strides l = length l.rest
