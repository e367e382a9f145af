use Rattle.std.proofs.Common.{sym, ◌∙◌, ◌^◌}
use Rattle.judy_query.proofs.Links.{len_is}
use Rattle.judy_word.proofs.tree_array.TreeArray.len.Goals as goal

pub returns-clause-count : goal.returns-clause-count
returns-clause-count g c = rw (← c.self.view_is) (c.pop.ensures ∙ sym (len_is g.V.Words.WORDS (256 ^ 8) _ c.law.ensures.map))
