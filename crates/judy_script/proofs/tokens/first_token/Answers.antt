use Rattle.std.proofs.Common.{◌≡◌, ◌<◌, length, ap, ◌∙◌, sym, refl, arith}
use Rattle.std.proofs.lemmas.List.{nil_from_length}
use Rattle.judy_model.specs.Tokens.{tokens_of}
use Rattle.judy_script.proofs.TokenLemmas.{tokens_of-front, token_begins}
use Rattle.judy_script.proofs.tokens.first_token.Goals as goal

pub returns-then-is_empty : goal.returns-then-is_empty
returns-then-is_empty c =
    let text = c.behind_spaces-text.result.now in
    let none : length text ≡ 0 = grind (arith, c.is_empty.ensures, c.if-is_empty.true) in
    sym c.behind_spaces-text.ensures.same ∙ ap tokens_of (nil_from_length text none)

pub returns : goal.returns
returns c =
    let text = c.behind_spaces-text.result.now in
    let some : 0 < length text = grind (arith, c.is_empty.ensures, c.if-is_empty.false) in
    let begins = token_begins text c.len_before.result (c.behind_spaces-text.ensures.begins some) some c.len_before.ensures.end in
    sym c.behind_spaces-text.ensures.same
    ∙ tokens_of-front text c.len_before.result begins c.len_before.ensures.within c.len_before.ensures.front c.len_before.ensures.end
    ∙ rw (c.split_at.ensures.front, c.split_at.ensures.back) refl
