use Rattle.std.proofs.Common.{◌≡◌, ◌<◌, length, take}
use Rattle.judy_model.specs.Ranges.{zeroed}
use Rattle.judy_bits.specs.ByteSets.{rank}
use Rattle.judy_node.proofs.bits.write_bits.Given as goal

abbrev pub invariant-loop-place : goal.invariant-loop-place
invariant-loop-place l = record {
  written : take l.place l.out ≡ zeroed (take l.place l.bits);
  behind : l.place < length l.bits → rank l.bits l.from ≡ l.place;
}
