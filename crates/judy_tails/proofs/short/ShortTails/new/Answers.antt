use Rattle.std.proofs.Common.{sym, subst}
use Rattle.judy_tails.specs.Inside.{AreTails}
use Rattle.judy_tails.proofs.LengthLemmas.{none-are}
use Rattle.judy_tails.proofs.short.ShortTails.new.Goals as goal

pub invariant_of-result : goal.invariant_of-result
invariant_of-result c = subst AreTails (sym c.new.ensures.items) none-are
