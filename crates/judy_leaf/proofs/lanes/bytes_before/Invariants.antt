use Rattle.std.proofs.Common.{◌≡◌, ◌+◌, ◌*◌, ◌≤◌, ◌==◌, not, length, drop}
use Rattle.std.specs.List.{prefix_len}
use Rattle.judy_leaf.specs.Packing.{places_of}
use Rattle.judy_leaf.proofs.lanes.bytes_before.Given as goal

abbrev pub invariant-loop-word : goal.invariant-loop-word
invariant-loop-word l = (l.before ≡ prefix_len (λ place. not (place == l.key)) (places_of 1 (drop l.word l.words))) × (l.before + 8 * l.word ≤ 8 * length l.words) × (l.word ≤ length l.words)

abbrev pub decreases-loop-word : goal.decreases-loop-word
decreases-loop-word l = l.word
