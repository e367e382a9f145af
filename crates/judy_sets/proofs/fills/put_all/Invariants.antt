use Rattle.std.proofs.Common.{take}
use Rattle.judy_sets.specs.Fills.{IsPut}
use Rattle.judy_sets.proofs.fills.put_all.Given as goal

-- the first pairs were put in
abbrev pub invariant-pairs : goal.invariant-pairs
invariant-pairs g l = IsPut g.V.Words.WORDS l.fn.made l.made (take l.pair-index l.pairs)
