use Rattle.std.proofs.Common.{◌≡◌, ◌-◌, length, ◌&&◌, ◌==◌}
use Rattle.judy_c.specs.KeyWalks.{page_of, pairs_from}
use Rattle.judy_c.proofs.PageLemmas.{IsSoFar}
use Rattle.judy_c.proofs.key_walks.fill.fill_by_cursor.Given as goal

-- so many pairs are written, and those that come are those from where the cursor stands on
abbrev pub invariant-loop-count : goal.invariant-loop-count
invariant-loop-count l =
    IsSoFar (pairs_from l.array.map l.from l.itself) (page_of l.initial.bytes l.initial.entries) l.used l.count (pairs_from l.array.map l.cursor.key (l.itself && (l.count == 0)))
    (page_of l.bytes l.entries)
    × (l.cursor.map ≡ l.array.map)

abbrev pub decreases-loop-count : goal.decreases-loop-count
decreases-loop-count l = length l.initial.entries - l.count
