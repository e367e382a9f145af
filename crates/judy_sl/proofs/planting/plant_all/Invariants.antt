use Rattle.std.proofs.Common.{◌≡◌, ℕ, ◌<◌, ◌≤◌, drop, length}
use Rattle.std.specs.FinMap.{empty}
use Rattle.judy_sl.specs.Arenas.{map_of, AreWithin}
use Rattle.judy_sl.specs.Planted.{openers, planted, AreBelow, IsPlanted}
use Rattle.judy_sl.specs.Sorted.{pairs_in, with_pairs}
use Rattle.judy_sl.proofs.planting.plant_all.Given as goal

-- the entries are those of the keys that are in, one at most for each pair; with the ones that are left the array comes to what it does with all
abbrev pub invariant-pairs : goal.invariant-pairs
invariant-pairs g l = record {
  are_in : IsPlanted l.arena l.entries.items;
  below : (word : ℕ) → l.low < word → AreBelow word l.entries.items;
  few : length l.entries.items ≤ l.pair-index;
  within : AreWithin l.longest (map_of (planted l.arena l.entries.items));
  most : l.longest ≤ g.L.KeyLength.LONGEST;
  goes_on : with_pairs (map_of (planted l.arena l.entries.items)) (openers l.low (pairs_in (drop l.pair-index l.pairs))) ≡ with_pairs empty (openers 0 (pairs_in l.pairs));
}
