use Rattle.std.proofs.Common.{◌≡◌, ◌≤◌, ◌*◌, count_by, nat_lt, take}
use Rattle.judy_leaf.specs.Packing.{places_of}
use Rattle.judy_leaf.proofs.packed.count_below.Given as goal

abbrev pub invariant-loop-word : goal.invariant-loop-word
invariant-loop-word g l = (l.below ≡ count_by (λ place. nat_lt place l.key) (places_of g.row.W (take l.word-index l.words))) × (l.below ≤ 8 * l.word-index)
