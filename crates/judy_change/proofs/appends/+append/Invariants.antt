use Rattle.std.proofs.Common.{◌+◌, ◌*◌}
use Rattle.judy_change.proofs.appends.+append.Given as goal

abbrev pub decreases-append_in : goal.decreases-append_in
decreases-append_in g l = 4 * l.width + 3

abbrev pub decreases-append_to_kind : goal.decreases-append_to_kind
decreases-append_to_kind g l = 4 * l.width + 2

abbrev pub decreases-append_to_child : goal.decreases-append_to_child
decreases-append_to_child g l = 4 * (l.branch.now.width + 1)
