use Rattle.std.proofs.Common.{ℕ, sym, ap, ◌∙◌, eq-eqb, eqb-true}
use Rattle.std.specs.FinMap.{len, len-empty, empty_of_len}
use Rattle.judy_model.specs.Keys.{word_order}
use Rattle.judy_word.proofs.tree_array.TreeArray.is_empty.Goals as goal

pub returns : goal.returns
returns g c =
    ((λ none. empty_of_len _ (sym c.len.ensures.count ∙ eqb-true _ _ none)), λ empty. eq-eqb _ _ (c.len.ensures.count ∙ ap len empty ∙ len-empty word_order ℕ))
