-- The entries from the end on are listed.
use Rattle.std.proofs.Common.{◌≡◌, ◌≤◌, drop, length}
use Rattle.std.specs.FinMap.{entries, len}
use Rattle.judy_sl.specs.Arenas.{world_of}
use Rattle.judy_sl.specs.Listed.{IsListing}
use Rattle.judy_sl.proofs.arena.Arena.read_list.Given as goal

abbrev pub invariant-pages : goal.invariant-pages
invariant-pages l = record {
  room : length l.page ≡ 128;
  within : l.end ≤ len l.level.map;
  listed : IsListing (world_of l.self) (drop l.end (entries l.level.map)) l.list;
}

abbrev pub decreases-pages : goal.decreases-pages
decreases-pages l = l.end
