use Rattle.std.proofs.Common.{◌+◌, ap, sym, ◌∙◌, ◌^◌, is_ge}
use Rattle.std.specs.Option.{option_map}
use Rattle.judy_model.specs.Keys.{word_order}
use Rattle.judy_model.proofs.lemmas.orders.FollowingLemmas.{next-first}
use Rattle.judy_query.proofs.Links.{first_is}
use Rattle.judy_word.proofs.EntryFacts.{value-found}
use Rattle.judy_word.proofs.tree_array.TreeArray.around.Goals as goal

pub returns-clause-found : goal.returns-clause-found
returns-clause-found g c = rw (← c.self.view_is) c.around.ensures.value

pub returns-clause-key : goal.returns-clause-key
returns-clause-key g c =
    rw (← c.self.view_is) (ap (option_map (λ entry. entry.0)) c.around.ensures.above ∙ sym (first_is g.V.Words.WORDS (256 ^ 8) _ c.law.ensures.map (c.args.key + 1)) ∙ sym (next-first _ _))

pub returns-clause-value : goal.returns-clause-value
returns-clause-value g c = rw (← c.self.view_is) (value-found g.V.Words.WORDS _ c.law.ensures.map _ (λ pair. is_ge (word_order pair.0 (c.args.key + 1))) c.around.ensures.above)
