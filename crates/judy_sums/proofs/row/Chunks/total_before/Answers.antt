use Rattle.std.proofs.Common.{ℕ, List, take, ap, arith, ◌∙◌}
use Rattle.std.specs.List.{sum}
use Rattle.judy_sums.specs.Chunks.{totals_of}
use Rattle.judy_sums.proofs.RowLemmas.{sum_before, sum_first}
use Rattle.judy_sums.proofs.row.Chunks.total_before.Goals as goal

pub sum_before-requires-clause-fits : goal.sum_before-requires-clause-fits
sum_before-requires-clause-fits c =
    let sums = ap (λ (totals : List ℕ). sum (take c.args.at totals)) (c.deref.ensures.value ∙ c.self.invariant.each ∙ ap totals_of c.self.view_is) in
    let before = sum_before c.args.self.now c.args.at in
    let first = sum_first c.args.self.now c.args.at in
    let fits = c.requires.fits in
    omega arith

pub returns : goal.returns
returns c =
    c.sum_before.ensures ∙ ap (λ (totals : List ℕ). sum (take c.args.at totals)) (c.deref.ensures.value ∙ c.self.invariant.each ∙ ap totals_of c.self.view_is)
    ∙ sum_before c.args.self.now c.args.at
