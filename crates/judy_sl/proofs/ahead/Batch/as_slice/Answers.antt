use Rattle.std.proofs.Common.{◌≡◌, ◌-◌, ◌+◌, drop, take, ap, sym, ◌∙◌, arith}
use Rattle.std.proofs.lemmas.List.{drop-take}
use Rattle.judy_sl.proofs.ahead.Batch.as_slice.Goals as goal

pub returns : goal.returns
returns c =
    let at = c.self.inside.at in
    let count = c.self.inside.end - at in
    let read = c.self.inside.read in
    let order = c.self.invariant.0 in
    let whole : c.self.inside.end ≡ at + count = omega (arith, order) in
    sym (ap (λ n. drop at (take n read)) whole ∙ drop-take at count read) ∙ c.self.view_is
