use Rattle.std.proofs.Common.{◌+◌, ◌*◌}
use Rattle.judy_change.proofs.around.+cut.Given as goal

abbrev pub decreases-cut_in : goal.decreases-cut_in
decreases-cut_in g l = 4 * l.width + 3

abbrev pub decreases-cut_kind : goal.decreases-cut_kind
decreases-cut_kind g l = 4 * l.width + 2

abbrev pub decreases-cut_below : goal.decreases-cut_below
decreases-cut_below g l = 4 * l.branch.now.width + 4
