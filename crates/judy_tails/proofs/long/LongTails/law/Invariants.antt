use Rattle.std.proofs.Common.{◌≡◌, ℕ, ◌⊎◌, List, Some, Contains}
use Rattle.judy_model.specs.Keys.{IsWord}
use Rattle.judy_tails.specs.Long.{tail_at}
use Rattle.judy_tails.proofs.long.LongTails.law.Given as goal

-- Each tail is still to come, or its value is a word.
abbrev pub invariant-loop-tail : goal.invariant-loop-tail
invariant-loop-tail l =
    (goal.iterator-loop-tail).can_next l.tail-iterator ×
    (goal.iterator-loop-tail).is_finite l.tail-iterator ×
    ((index : ℕ) (tail : List ℕ × ℕ) → tail_at l.self index ≡ Some tail → Contains l.tail-iterator (index, tail) ⊎ IsWord tail.1)
