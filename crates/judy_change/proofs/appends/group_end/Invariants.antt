use Rattle.std.proofs.Common.{◌/◌, ◌^◌, take}
use Rattle.judy_change.specs.Appended.{AllBegin, first_key}
use Rattle.judy_change.proofs.appends.group_end.Given as goal

-- the pairs that were seen begin as the first one does
abbrev pub invariant-pairs : goal.invariant-pairs
invariant-pairs l = AllBegin (256 ^ l.below) (first_key l.pairs / 256 ^ l.below) (take l.at l.pairs)
