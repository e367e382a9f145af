use Rattle.std.proofs.Common.{◌≡◌, ◌+◌, ◌^◌, drop}
use Rattle.judy_node.specs.Built.{sharing}
use Rattle.judy_node.proofs.build.front_with.Given as goal

abbrev pub invariant-loop-at : goal.invariant-loop-at
invariant-loop-at l = sharing (256 ^ l.below) 256 l.byte l.pairs ≡ l.at + sharing (256 ^ l.below) 256 l.byte (drop l.at l.pairs)
