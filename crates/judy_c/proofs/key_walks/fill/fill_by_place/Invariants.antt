use Rattle.std.proofs.Common.{◌+◌, ◌-◌, length, take, drop, IfSome}
use Rattle.std.specs.FinMap.{entries}
use Rattle.judy_c.specs.KeyWalks.{EndsBytes, page_of}
use Rattle.judy_c.proofs.PageLemmas.{IsSoFar}
use Rattle.judy_c.proofs.key_walks.fill.fill_by_place.Given as goal

-- so many pairs are written, those behind them come, and what is written ends with the key before these
abbrev pub invariant-loop-count : goal.invariant-loop-count
invariant-loop-count l =
    IsSoFar (drop l.place (entries l.array.map)) (page_of l.initial.bytes l.initial.entries) l.used l.count (drop (l.place + l.count) (entries l.array.map)) (page_of l.bytes l.entries)
    × IfSome l.before (EndsBytes l.array.map (l.place + l.count) (take l.used l.bytes))

abbrev pub decreases-loop-count : goal.decreases-loop-count
decreases-loop-count l = length l.initial.entries - l.count
