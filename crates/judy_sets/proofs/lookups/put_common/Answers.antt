use Rattle.std.proofs.Common.{refl, subst}
use Rattle.judy_sets.specs.LookUps.{IsCommonPut}
use Rattle.judy_combine.specs.Merges.{Pairs}
use Rattle.judy_sets.specs.Pages.{rest}
use Rattle.judy_sets.proofs.CountFacts.{at_end}
use Rattle.judy_sets.proofs.LookFacts.{common_none, common_page}
use Rattle.judy_sets.proofs.lookups.put_common.Goals as goal

pub pages-init : goal.pages-init
pages-init g c = λ new put. subst (λ (ps : Pairs). IsCommonPut g.V.Words.WORDS c.args.theirs c.args.made.now new ps c.args.many.now.map) c.of-pages.ensures put

pub returns-then-passed-eq0 : goal.returns-then-passed-eq0
returns-then-passed-eq0 g c =
    let page = c.ahead-page in
    let none = at_end c.pages.pages page.result.now page.ensures.read page.ensures.last c.if-passed-eq0.true in
    c.pages.invariant c.pages.made (common_none g.V.Words.WORDS c.args.theirs c.args.many.now.map c.pages.made (rest c.pages.pages) none)

pub pages-preserved : goal.pages-preserved
pages-preserved g c = λ new put.
    c.pages.invariant new (common_page g.V.Words.WORDS c.args.theirs c.args.many.now.map c.pages.made c.put_found.new.made new c.pages.pages c.pass.new.self c.ahead-page.result.now _
    c.ahead-page.ensures.read refl c.pass.ensures c.in_ok-put_found.ensures put)
