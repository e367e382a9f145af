-- The key stands before the end, and this many keys do.
use Rattle.std.proofs.Common.{◌≡◌, ◌<◌, ◌≤◌, length, take}
use Rattle.std.specs.FinMap.{entries, len}
use Rattle.judy_sl.specs.Arenas.{world_of}
use Rattle.judy_sl.specs.Counted.{keys_behind_all}
use Rattle.judy_sl.proofs.arena.Arena.read_back.Given as goal

abbrev pub invariant-pages : goal.invariant-pages
invariant-pages l = record {
  room : length l.page ≡ 32;
  within : l.end ≤ len l.level.map;
  told : l.before ≡ keys_behind_all (world_of l.self) (take l.end (entries l.level.map));
  sought : l.place < l.before;
}

abbrev pub decreases-pages : goal.decreases-pages
decreases-pages l = l.end
