use Rattle.std.proofs.Common.{◌≡◌, ◌+◌, map, drop}
use Rattle.std.specs.List.{AllByRecursion}
use Rattle.judy_model.specs.Keys.{IsWord}
use Rattle.judy_word.specs.Sorted.{ascending_from}
use Rattle.judy_word.proofs.SortedFacts.{low_after}
use Rattle.judy_word.proofs.sorted.ascending.Given as goal

-- as many as were read ascend, those that are left go on behind the last one, and all are words if those are
abbrev pub invariant-items : goal.invariant-items
invariant-items g l =
    (ascending_from 0 (map g.K.Keyed.key_of l.items) ≡ l.at + ascending_from (low_after l.last) (map g.K.Keyed.key_of (drop l.at l.items)))
    × (AllByRecursion IsWord (map g.K.Keyed.key_of (drop l.at l.items)) → AllByRecursion IsWord (map g.K.Keyed.key_of l.items))
