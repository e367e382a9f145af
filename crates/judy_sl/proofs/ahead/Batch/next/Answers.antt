use Rattle.std.proofs.Common.{◌≡◌, ◌+◌, ◌∷◌, ℕ, drop, take, slice_index_or, ap, sym, ◌∙◌, arith}
use Rattle.std.proofs.lemmas.List.{drop_more, get_or-take, length-take-le}
use Rattle.judy_sl.proofs.ahead.Batch.next.Goals as goal

pub returns : goal.returns
returns c =
    let at = c.self.inside.at in
    let end = c.self.inside.end in
    let read = c.self.inside.read in
    let long = length-take-le end read (omega (arith, c.self.invariant.1, c.self.invariant.2)) in
    let order = c.self.invariant.0 in
    let less = c.if-self.false in
    let split : drop at (take end read) ≡ slice_index_or read at (0, 0) ∷ drop (at + 1) (take end read) =
    drop_more (take end read) at (0, 0) (omega (arith, long, order, less)) ∙ ap (λ (entry : ℕ × ℕ). entry ∷ drop (at + 1) (take end read))
    (get_or-take end read at (0, 0) (omega (arith, order, less))) in
    record { steps = sym c.self.view_is ∙ split }
