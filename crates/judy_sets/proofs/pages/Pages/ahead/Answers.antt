use Rattle.std.proofs.Common.{◌≡◌, ◌-◌, ◌+◌, drop, take, length, ap, sym, ◌∙◌, arith}
use Rattle.std.proofs.lemmas.List.{drop-take}
use Rattle.judy_sets.proofs.PageFacts.{length_ahead}
use Rattle.judy_sets.proofs.pages.Pages.ahead.Goals as goal

pub returns-clause-read : goal.returns-clause-read
returns-clause-read g c =
    let at = c.self.inside.at in
    let count = c.self.inside.end - at in
    let page = c.self.inside.page in
    let order = c.self.invariant.order in
    let whole : c.self.inside.end ≡ at + count = omega (arith, order) in
    sym (ap (λ n. drop at (take n page)) whole ∙ drop-take at count page) ∙ ap (λ v. v.0) c.self.view_is

pub returns-clause-last : goal.returns-clause-last
returns-clause-last g c = λ none.
    let inside = c.self.inside in
    let long = length_ahead inside.page inside.at inside.end c.self.invariant.within in
    let nothing = ap length (ap (λ v. v.0) c.self.view_is ∙ none) in
    let order = c.self.invariant.order in
    sym (ap (λ v. v.1) c.self.view_is) ∙ c.self.invariant.last (omega (arith, long, nothing, order))
