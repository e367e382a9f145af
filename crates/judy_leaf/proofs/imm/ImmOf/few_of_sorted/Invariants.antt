use Rattle.std.proofs.Common.{◌≡◌, ◌^◌, take}
use Rattle.judy_leaf.specs.KeyLists.{low_pairs}
use Rattle.judy_leaf.proofs.imm.ImmOf.few_of_sorted.Given as goal

abbrev pub invariant-loop-key : goal.invariant-loop-key
invariant-loop-key g l = l.imm ≡ record { width = l.width; pairs = take l.key-index (low_pairs (256 ^ l.width) l.pairs) }
