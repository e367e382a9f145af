use Rattle.std.proofs.Common.{◌≡◌, ℕ, ◌/◌, ◌%◌, ◌^◌}
use Rattle.judy_bits.proofs.Halvings.{IsHalving}
use Rattle.judy_bits.proofs.bits.select.Given as goal

abbrev pub invariant-loop-width : goal.invariant-loop-width
invariant-loop-width l = IsHalving l.word l.index (l.word / 2 ^ l.place % 2 ^ l.width) l.left l.place l.width × (power : ℕ) × (l.width ≡ 2 ^ power)

abbrev pub decreases-loop-width : goal.decreases-loop-width
decreases-loop-width l = l.width
