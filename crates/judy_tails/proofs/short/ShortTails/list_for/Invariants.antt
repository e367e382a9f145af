use Rattle.std.proofs.Common.{◌≢◌, ◌<◌, ℕ}
use Rattle.judy_tails.proofs.ListLemmas.{list_at}
use Rattle.judy_tails.proofs.short.ShortTails.list_for.Given as goal

abbrev pub invariant-loop-number : goal.invariant-loop-number
invariant-loop-number l = (before : ℕ) → before < l.number → (list_at l.self-inside.lists.items before).size ≢ l.words
