use Rattle.std.proofs.Common.{◌-◌, length, drop}
use Rattle.judy_hs.specs.Listed.{entries_in}
use Rattle.judy_c.specs.KeyWalks.{page_of}
use Rattle.judy_c.proofs.PageLemmas.{IsSoFar}
use Rattle.judy_c.proofs.key_walks.fill.fill_list.Given as goal

-- so many pairs are written, and those behind them come
abbrev pub invariant-loop-count : goal.invariant-loop-count
invariant-loop-count l =
    IsSoFar (entries_in l.list) (page_of l.initial.bytes l.initial.entries) l.used l.count (drop l.count (entries_in l.list)) (page_of l.bytes l.entries)

abbrev pub decreases-loop-count : goal.decreases-loop-count
decreases-loop-count l = length l.initial.entries - l.count
