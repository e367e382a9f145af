-- The keys behind the entries that were read.
use Rattle.std.proofs.Common.{◌≡◌, take}
use Rattle.judy_sl.specs.Arenas.{world_of}
use Rattle.judy_sl.specs.Counted.{keys_behind_all}
use Rattle.judy_sl.proofs.arena.Arena.page_keys.Given as goal

abbrev pub invariant-loop-piece : goal.invariant-loop-piece
invariant-loop-piece l = l.keys ≡ keys_behind_all (world_of l.self) (take l.piece-index l.page)
