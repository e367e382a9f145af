use Rattle.std.proofs.Common.{take}
use Rattle.judy_sets.specs.LookUps.{IsCommonPut}
use Rattle.judy_sets.proofs.lookups.put_found.Given as goal

-- those of the first pairs were put in
abbrev pub invariant-pairs : goal.invariant-pairs
invariant-pairs g l = IsCommonPut g.V.Words.WORDS l.theirs l.fn.made l.made (take l.pair-index l.pairs) l.many.map
