use Rattle.std.proofs.Common.{refl}
use Rattle.judy_sets.specs.Pages.{rest}
use Rattle.judy_sets.proofs.CountFacts.{at_end}
use Rattle.judy_sets.proofs.FillFacts.{none_left, rest_put, rest_all}
use Rattle.judy_sets.proofs.fills.put_rest.Goals as goal

pub returns-then-count-eq0 : goal.returns-then-count-eq0
returns-then-count-eq0 g c =
    let words = g.V.Words.WORDS in
    let page = c.ahead-page in
    let none = at_end c.pages.pages page.result.now page.ensures.read page.ensures.last c.if-count-eq0.true in
    rest_all words c.args.wanted c.args.made.now c.pages.made (rest c.args.pages.now) c.if-not-wanted.false (c.pages.invariant c.pages.made (none_left words c.pages.made (rest c.pages.pages) none))

pub pages-preserved : goal.pages-preserved
pages-preserved g c = λ new put.
    c.pages.invariant new (rest_put g.V.Words.WORDS c.pages.made c.put_all.new.made new c.pages.pages c.pass.new.self c.ahead-page.result.now _ c.ahead-page.ensures.read
    refl c.pass.ensures c.in_ok-put_all.ensures put)
