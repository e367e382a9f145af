use Rattle.std.proofs.Common.{sym, ◌∙◌, arith}
use Rattle.judy_model.proofs.lemmas.orders.FollowingLemmas.{prev-zero}
use Rattle.judy_word.proofs.HeldFacts.{prev_less}
use Rattle.judy_word.proofs.tree_array.TreeArray.prev_entry.Goals as goal

pub returns-then-from-eq0-clause-key : goal.returns-then-from-eq0-clause-key
returns-then-from-eq0-clause-key g c = rw c.if-from-eq0.true (sym (prev-zero _))

pub returns-else-from-eq0-clause-key : goal.returns-else-from-eq0-clause-key
returns-else-from-eq0-clause-key g c = c.last_entry.ensures.key ∙ sym (prev_less _ c.args.from (omega (arith, c.if-from-eq0.false)))
