use Rattle.std.proofs.Common.{◌≡◌, ℕ, List, ◌∷◌, ◌-◌, length, take, drop, get_or, drop-cons, sym, ap, ◌∙◌, arith}
use Rattle.std.proofs.lemmas.List.{take_rest}
use Rattle.judy_command.proofs.KeyReadLemmas.{string_of_signs}
use Rattle.judy_command.proofs.keys.string_key.Goals as goal

pub returns-in-61-clause-said : goal.returns-in-61-clause-said
returns-in-61-clause-said c =
    let token = c.args.token.now in
    let signs : List ℕ = take (length token - 1) (drop 1 token) in
    let first : get_or token 0 0 ≡ 61 = omega arith in
    let is : token ≡ 61 ∷ signs = drop-cons token 0 0 (omega arith) ∙ ap (λ byte. byte ∷ drop 1 token) first ∙ ap (λ rest. 61 ∷ rest) (sym (take_rest token 1)) in
    c.signs_key.ensures ∙ string_of_signs token signs is
