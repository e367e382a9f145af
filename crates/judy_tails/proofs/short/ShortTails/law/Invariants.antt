use Rattle.std.proofs.Common.{◌<◌, ℕ}
use Rattle.judy_model.specs.Keys.{IsWord}
use Rattle.judy_records.specs.Spots.{IsHeld, spot_at, value_of}
use Rattle.judy_tails.proofs.ListLemmas.{list_at}
use Rattle.judy_tails.proofs.short.ShortTails.law.Given as goal

abbrev pub invariant-loop-list : goal.invariant-loop-list
invariant-loop-list l = (number index : ℕ) → number < l.list-index → IsHeld (spot_at (list_at l.list-items number) index) → IsWord (value_of (spot_at (list_at l.list-items number) index))
