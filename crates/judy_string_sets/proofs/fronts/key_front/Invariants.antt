use Rattle.std.proofs.Common.{◌≢◌, ◌-◌, ◌≤◌, All, length, take}
use Rattle.judy_string_sets.proofs.fronts.key_front.Given as goal

-- None of so many bytes is zero.
abbrev pub invariant-bytes : goal.invariant-bytes
invariant-bytes l = (l.count ≤ length l.bytes) × (l.count ≤ l.longest) × All (λ byte. byte ≢ 0) (take l.count l.bytes)

abbrev pub decreases-bytes : goal.decreases-bytes
decreases-bytes l = length l.bytes - l.count
