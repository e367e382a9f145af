use Rattle.std.proofs.Common.{◌≡◌, ◌-◌, ◌≤◌, length, take}
use Rattle.judy_model.specs.Arrays.{with_map}
use Rattle.judy_word.specs.Held.{map_in, array_in, with_all}
use Rattle.judy_word.proofs.tree_array.fronts.set_all.Given as goal

-- so far the first pairs were put in
abbrev pub invariant-fronts : goal.invariant-fronts
invariant-fronts g l =
    (l.done ≤ length l.pairs) × (array_in l.array ≡ with_map (array_in l.fn.array) (with_all (map_in l.fn.array) (take l.done l.pairs))) × (l.array.loose ≡ l.fn.array.loose)

abbrev pub decreases-fronts : goal.decreases-fronts
decreases-fronts g l = length l.pairs - l.done
