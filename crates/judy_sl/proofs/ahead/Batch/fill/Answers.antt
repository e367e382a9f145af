use Rattle.std.proofs.Common.{◌++◌, [], List, ℕ, Option, ap, sym, ◌∙◌, arith, unwrap_or}
use Rattle.std.proofs.lemmas.List.{take-append-drop}
use Rattle.judy_sl.proofs.lemmas.places.PageCounts.{page_is}
use Rattle.judy_sl.proofs.ahead.Batch.fill.Goals as goal

pub returns-in-Some : goal.returns-in-Some
returns-in-Some c =
    let inside = c.self.inside in
    let level = c.in-Some.entries in
    let out = c.fill-self-inside.new.out in
    let count = c.fill-self-inside.result in
    let front = page_is level inside.read out count (omega (arith, c.fill-self-inside.ensures.count)) c.fill-self-inside.ensures.out in
    let behind = ap (λ (left : Option (List (ℕ × ℕ))). unwrap_or left []) (sym c.in-Some.is) in
    (λ t. front t ++ c.fill-self-inside.ensures.left t) ∙ take-append-drop count level ∙ behind
