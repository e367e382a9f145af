use Rattle.std.proofs.Common.{sym, ◌∙◌}
use Rattle.judy_model.proofs.lemmas.orders.FollowingLemmas.{next_empty-first_empty}
use Rattle.judy_word.proofs.HeldFacts.{next_empty_most}
use Rattle.judy_word.proofs.tree_array.TreeArray.next_empty.Goals as goal

pub returns-then-from-eq18446744073709551615 : goal.returns-then-from-eq18446744073709551615
returns-then-from-eq18446744073709551615 g c = rw c.if-from-eq18446744073709551615.true (sym (next_empty_most _))

pub returns-else-from-eq18446744073709551615 : goal.returns-else-from-eq18446744073709551615
returns-else-from-eq18446744073709551615 g c = c.first_empty.ensures ∙ sym (next_empty-first_empty _ _)
