use Rattle.std.proofs.Common.{◌++◌, drop, ap, sym, ◌∙◌}
use Rattle.judy_sets.specs.Pages.{Ahead}
use Rattle.judy_sets.proofs.PageFacts.{page_and_rest, page_passed}
use Rattle.judy_sets.proofs.pages.Pages.pass.Goals as goal

pub returns-then-self : goal.returns-then-self
returns-then-self g c =
    let inside = c.self.inside in
    let fill = c.fill-self-inside in
    let given = fill.ensures.given in
    page_and_rest inside.walk inside.page fill.new.out fill.new.self fill.result given.there given.out given.others
    ∙ sym (page_passed inside.page inside.walk inside.at inside.end c.args.count c.self.invariant.within c.if-self.true)
    ∙ ap (λ (v : Ahead). drop c.args.count v.0 ++ v.1) c.self.view_is
