use Rattle.std.proofs.Common.{sym, ◌∙◌, arith}
use Rattle.judy_model.proofs.lemmas.orders.FollowingLemmas.{prev_empty-zero}
use Rattle.judy_word.proofs.HeldFacts.{prev_empty_less}
use Rattle.judy_word.proofs.tree_array.TreeArray.prev_empty.Goals as goal

pub returns-then-from-eq0 : goal.returns-then-from-eq0
returns-then-from-eq0 g c = rw c.if-from-eq0.true (sym (prev_empty-zero _))

pub returns-else-from-eq0 : goal.returns-else-from-eq0
returns-else-from-eq0 g c = c.last_empty.ensures ∙ sym (prev_empty_less _ c.args.from (omega (arith, c.if-from-eq0.false)))
