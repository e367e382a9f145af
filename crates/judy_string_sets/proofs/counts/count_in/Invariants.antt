use Rattle.std.proofs.Common.{◌≡◌, ◌+◌}
use Rattle.std.specs.FinMap.{len}
use Rattle.judy_model.specs.TwoMaps.{intersection}
use Rattle.judy_string_sets.proofs.counts.count_in.Given as goal

abbrev pub invariant-keys : goal.invariant-keys
invariant-keys g l = l.count + len (intersection l.keys.map l.other.map) ≡ len (intersection l.one.map l.other.map)

abbrev pub decreases-keys : goal.decreases-keys
decreases-keys g l = len (intersection l.keys.map l.other.map)
