use Rattle.judy_sets.proofs.PageFacts.{page_and_rest}
use Rattle.judy_sets.proofs.pages.Pages.ahead_of.Goals as goal

pub returns : goal.returns
returns g c =
    let given = c.fill-end.ensures.given in
    page_and_rest c.args.walk _ c.fill-end.new.out c.fill-end.new.self c.fill-end.result given.there given.out given.others
