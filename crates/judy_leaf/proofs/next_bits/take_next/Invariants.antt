use Rattle.std.proofs.Common.{ℕ, ◌-◌}
use Rattle.judy_leaf.specs.NextBits.{AreLeft}
use Rattle.judy_leaf.proofs.next_bits.take_next.Given as goal

abbrev pub invariant-loop-left : goal.invariant-loop-left
invariant-loop-left l = (byte : ℕ) → AreLeft l.words l.fn.word l.fn.left byte → AreLeft l.words l.word l.left byte

abbrev pub decreases-loop-left : goal.decreases-loop-left
decreases-loop-left l = 4 - l.word
