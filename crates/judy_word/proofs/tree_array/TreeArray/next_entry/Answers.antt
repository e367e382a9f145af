use Rattle.std.proofs.Common.{sym, ◌∙◌}
use Rattle.judy_model.proofs.lemmas.orders.FollowingLemmas.{next-first}
use Rattle.judy_word.proofs.HeldFacts.{next_most}
use Rattle.judy_word.proofs.tree_array.TreeArray.next_entry.Goals as goal

pub returns-then-from-eq18446744073709551615-clause-key : goal.returns-then-from-eq18446744073709551615-clause-key
returns-then-from-eq18446744073709551615-clause-key g c = rw c.if-from-eq18446744073709551615.true (sym (next_most g.V.Words.WORDS _ c.law.ensures.node.map))

pub returns-else-from-eq18446744073709551615-clause-key : goal.returns-else-from-eq18446744073709551615-clause-key
returns-else-from-eq18446744073709551615-clause-key g c = c.first_entry.ensures.key ∙ sym (next-first _ _)
