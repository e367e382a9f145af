-- The entries of the level from that place of the page on are listed.
use Rattle.std.proofs.Common.{◌+◌, ◌≤◌, drop, length}
use Rattle.std.specs.FinMap.{entries}
use Rattle.judy_sl.specs.Arenas.{world_of}
use Rattle.judy_sl.specs.Listed.{IsListing}
use Rattle.judy_sl.proofs.arena.Arena.list_page.Given as goal

abbrev pub invariant-entries : goal.invariant-entries
invariant-entries l = (l.left ≤ length l.page) × IsListing (world_of l.self) (drop (l.start + l.left) (entries l.level.map)) l.list

abbrev pub decreases-entries : goal.decreases-entries
decreases-entries l = l.left
