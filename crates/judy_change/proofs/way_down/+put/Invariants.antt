use Rattle.std.proofs.Common.{◌+◌, ◌*◌}
use Rattle.judy_change.proofs.way_down.+put.Given as goal

abbrev pub decreases-put_in : goal.decreases-put_in
decreases-put_in g l = 4 * l.width + 3

abbrev pub decreases-put_in_kind : goal.decreases-put_in_kind
decreases-put_in_kind g l = 4 * l.width + 2

abbrev pub decreases-put_in_child : goal.decreases-put_in_child
decreases-put_in_child g l = 4 * (l.branch.now.width + 1)
