use Rattle.std.proofs.Common.{sym, ◌∙◌, ◌^◌}
use Rattle.judy_model.proofs.lemmas.orders.FollowingLemmas.{rank-following}
use Rattle.judy_query.proofs.Links.{len_is}
use Rattle.judy_word.proofs.HeldFacts.{count_up_to_most}
use Rattle.judy_word.proofs.tree_array.TreeArray.count_up_to.Goals as goal

pub returns-then-key-eq18446744073709551615 : goal.returns-then-key-eq18446744073709551615
returns-then-key-eq18446744073709551615 g c =
    let map = c.law.ensures.node.map in
    rw c.if-key-eq18446744073709551615.true (c.len.ensures.count ∙ len_is g.V.Words.WORDS (256 ^ 8) _ map ∙ sym (count_up_to_most g.V.Words.WORDS _ map))

pub returns-else-key-eq18446744073709551615 : goal.returns-else-key-eq18446744073709551615
returns-else-key-eq18446744073709551615 g c = c.rank.ensures ∙ rank-following _ _
