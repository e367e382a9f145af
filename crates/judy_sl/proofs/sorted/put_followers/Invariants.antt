use Rattle.std.proofs.Common.{◌≡◌, drop}
use Rattle.judy_model.specs.Arrays.{with_map}
use Rattle.judy_sl.specs.Planted.{followers}
use Rattle.judy_sl.specs.Sorted.{pairs_in, with_pairs}
use Rattle.judy_sl.proofs.sorted.put_followers.Given as goal

-- with the pairs that are left the array comes to what it does with all
abbrev pub invariant-pairs : goal.invariant-pairs
invariant-pairs g l =
    with_map l.array (with_pairs l.array.map (followers l.low (pairs_in (drop l.pair-index l.pairs)))) ≡ with_map l.initial.array (with_pairs l.initial.array.map (followers 0 (pairs_in l.pairs)))
