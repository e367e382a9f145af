use Rattle.std.proofs.Common.{◌≡◌, ◌-◌, ◌+◌, ◌≤◌, List, ℕ, length, take, drop, sym, ap, ◌∙◌, arith}
use Rattle.std.proofs.lemmas.List.{take_all}
use Rattle.judy_model.specs.WordBytes.{low_bytes}
use Rattle.judy_model.proofs.lemmas.orders.ByteLemmas.{length-low_bytes}
use Rattle.judy_hs.proofs.WalkLemmas.{drop-low_bytes, be-low_bytes}
use Rattle.judy_hs.proofs.entry.short_key.Goals as goal

pub returns : goal.returns
returns c =
    let width = c.args.key_length in
    let all : (8 - width) + width ≡ 8 = omega (arith, c.requires) in
    let long : length (low_bytes width c.args.word) ≤ 8 - (8 - width) = omega (arith, c.requires, length-low_bytes width c.args.word) in
    c.in-Ok.ensures.0
    ∙ ap (λ (bytes : List ℕ). take (8 - (8 - width)) (drop (8 - width) bytes)) (c.to_be_bytes.ensures ∙ be-low_bytes c.args.word ∙ ap (λ n. low_bytes n c.args.word) (sym all))
    ∙ ap (take (8 - (8 - width))) (drop-low_bytes (8 - width) width c.args.word)
    ∙ take_all (8 - (8 - width)) (low_bytes width c.args.word) long
