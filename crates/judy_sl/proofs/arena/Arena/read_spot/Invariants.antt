-- The key is sought behind the entries that are left.
use Rattle.std.proofs.Common.{◌≡◌, length, All}
use Rattle.judy_sl.specs.Arenas.{world_of}
use Rattle.judy_sl.specs.Counted.{LeadsOn}
use Rattle.judy_sl.proofs.lemmas.places.PageReads.{Reading}
use Rattle.judy_sl.proofs.arena.Arena.read_spot.Given as goal

abbrev pub invariant-pages : goal.invariant-pages
invariant-pages l = record {
  room : length l.page ≡ 32;
  leads : All (LeadsOn (world_of l.self)) l.entries;
  sought : Reading (world_of l.self) l.fn.entries l.entries l.place l.left;
}

abbrev pub decreases-pages : goal.decreases-pages
decreases-pages l = length l.entries
