use Rattle.std.proofs.Common.{◌-◌}
use Rattle.judy_sl.proofs.lemmas.places.Nths.{Choosing}
use Rattle.judy_sl.proofs.nth.chosen.Given as goal

abbrev pub invariant-search : goal.invariant-search
invariant-search l = Choosing l.level.map l.firsts l.most l.low l.high.place

abbrev pub decreases-search : goal.decreases-search
decreases-search l = l.high.place - l.low.place
