use Rattle.std.proofs.Common.{◌≡◌, ◌+◌, ◌-◌, ◌^◌, ◌≤◌, drop, length}
use Rattle.judy_node.specs.Built.{sharing}
use Rattle.judy_node.proofs.build.strides_end.Given as goal

abbrev pub invariant-loop-at : goal.invariant-loop-at
invariant-loop-at g l = (l.at ≤ length l.pairs) × (sharing (256 ^ l.below) 256 l.byte l.pairs ≡ l.at + sharing (256 ^ l.below) 256 l.byte (drop l.at l.pairs))

abbrev pub decreases-loop-at : goal.decreases-loop-at
decreases-loop-at g l = length l.pairs - l.at
