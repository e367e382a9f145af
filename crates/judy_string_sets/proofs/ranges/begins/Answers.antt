use Rattle.std.proofs.lemmas.Slice.Eq.{slice_eq-Decides}
use Rattle.std.proofs.lemmas.Bool.Decides.{Decides-eqb}
use Rattle.judy_string_sets.proofs.EndFacts.{front_begins, too_short}
use Rattle.judy_string_sets.proofs.ranges.begins.Goals as goal

pub returns-then-prefix-key : goal.returns-then-prefix-key
returns-then-prefix-key c = front_begins c.args.prefix.now c.args.key.now c.eq.result (slice_eq-Decides Decides-eqb _ _ _ c.eq.ensures)

pub returns-else-prefix-key : goal.returns-else-prefix-key
returns-else-prefix-key c = too_short c.args.prefix.now c.args.key.now c.if-prefix-key.false
