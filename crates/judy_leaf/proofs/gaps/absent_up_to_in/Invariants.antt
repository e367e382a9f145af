use Rattle.std.proofs.Common.{◌≡◌, ◌≤◌, ◌<◌, ◌^◌}
use Rattle.judy_bits.specs.ByteSets as set
use Rattle.judy_leaf.specs.Packing.{keys_in}
use Rattle.judy_leaf.proofs.AbsentRuns.{IsRunDown}
use Rattle.judy_leaf.proofs.gaps.absent_up_to_in.Given as goal

abbrev pub invariant-loop-at : goal.invariant-loop-at
invariant-loop-at g l =
    (l.absent ≤ l.number) × (l.absent < 256 ^ g.row.W) × (l.at ≡ set.count_up_to (keys_in g.row.W l.count l.words) l.absent) ×
    IsRunDown (256 ^ g.row.W) (keys_in g.row.W l.count l.words) l.number l.absent
