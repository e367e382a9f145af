use Rattle.std.proofs.Common.{◌+◌, ◌*◌}
use Rattle.judy_change.proofs.removals.+remove.Given as goal

abbrev pub decreases-remove_in : goal.decreases-remove_in
decreases-remove_in g l = 4 * l.width + 3

abbrev pub decreases-remove_kind : goal.decreases-remove_kind
decreases-remove_kind g l = 4 * l.width + 2

abbrev pub decreases-remove_below : goal.decreases-remove_below
decreases-remove_below g l = 4 * l.branch.now.width + 4
