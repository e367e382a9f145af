-- With the keys behind the first of the entries that are left the sum is whole.
use Rattle.std.proofs.Common.{◌≡◌, ◌+◌, ◌≤◌, length, take, All}
use Rattle.judy_sl.specs.Arenas.{world_of}
use Rattle.judy_sl.specs.Counted.{LeadsOn, keys_behind_all}
use Rattle.judy_sl.proofs.arena.Arena.read_keys.Given as goal

abbrev pub invariant-pages : goal.invariant-pages
invariant-pages l = record {
  room : length l.page ≡ 64;
  leads : All (LeadsOn (world_of l.self)) l.entries;
  there : l.left ≤ length l.entries;
  whole : l.keys + keys_behind_all (world_of l.self) (take l.left l.entries) ≡ keys_behind_all (world_of l.self) (take l.count l.fn.entries);
}

abbrev pub decreases-pages : goal.decreases-pages
decreases-pages l = l.left
