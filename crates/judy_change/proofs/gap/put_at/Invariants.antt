use Rattle.std.proofs.Common.{◌≡◌, ◌≤◌, [], ◌∷◌, ◌++◌, length, take, drop}
use Rattle.std.specs.List.{insert}
use Rattle.judy_change.proofs.gap.put_at.Given as goal

abbrev pub invariant-loop-place : goal.invariant-loop-place
invariant-loop-place l =
    (length l.pairs ≡ length l.initial.pairs) × (l.fn.at ≤ l.place) × (take l.place l.pairs ++ l.next ∷ [] ≡ insert (take l.place l.initial.pairs) l.fn.at l.fn.pair) ×
    (drop l.place l.pairs ≡ drop l.place l.initial.pairs)
