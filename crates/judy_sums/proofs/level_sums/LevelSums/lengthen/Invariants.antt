-- The row keeps what it has for each index, and grows.
use Rattle.std.proofs.Common.{◌≡◌, ◌-◌, ℕ, suc, length}
use Rattle.judy_sums.specs.Listed.{list_at}
use Rattle.judy_sums.proofs.level_sums.LevelSums.lengthen.Given as goal

abbrev pub invariant-row : goal.invariant-row
invariant-row l = (other : ℕ) → list_at l.self-inside.lists.items other ≡ list_at l.initial.self-inside.lists.items other

abbrev pub decreases-row : goal.decreases-row
decreases-row l = suc l.index - length l.self-inside.lists.items
