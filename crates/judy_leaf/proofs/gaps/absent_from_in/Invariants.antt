use Rattle.std.proofs.Common.{◌≡◌, ◌≤◌, ◌^◌}
use Rattle.judy_bits.specs.ByteSets as set
use Rattle.judy_leaf.specs.Packing.{keys_in}
use Rattle.judy_leaf.proofs.AbsentRuns.{IsRunUp}
use Rattle.judy_leaf.proofs.gaps.absent_from_in.Given as goal

abbrev pub invariant-loop-at : goal.invariant-loop-at
invariant-loop-at g l =
    (l.number ≤ l.absent) × (l.absent ≤ l.top) × (l.at ≡ set.rank (keys_in g.row.W l.count l.words) l.absent) × IsRunUp (256 ^ g.row.W) (keys_in g.row.W l.count l.words) l.number l.absent
