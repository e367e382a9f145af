use Rattle.std.proofs.Common.{◌≢◌, ◌-◌, ◌/◌, ◌^◌, ◌<◌}
use Rattle.judy_change.proofs.split.left_of_apart.Given as goal

abbrev pub invariant-loop-left : goal.invariant-loop-left
invariant-loop-left l = (l.left < l.fn.count) × (l.fn.own / 256 ^ l.left ≢ l.fn.other / 256 ^ l.left)

abbrev pub decreases-loop-left : goal.decreases-loop-left
decreases-loop-left l = l.fn.count - l.left
