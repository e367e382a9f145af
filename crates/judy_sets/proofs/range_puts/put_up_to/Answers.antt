use Rattle.std.proofs.Common.{◌≡◌, ◌++◌, length, take, drop, sym, ap, ◌∙◌, eqb-true, subst}
use Rattle.std.specs.FinMap.{find}
use Rattle.judy_model.specs.Keys.{word_order}
use Rattle.judy_combine.specs.Merges.{Pairs, Ascends}
use Rattle.judy_sets.specs.Pages.{rest}
use Rattle.judy_sets.proofs.CountFacts.{at_end, after_pass}
use Rattle.judy_sets.proofs.RangePuts.{front_none, front_join, front_and_rest, past_front}
use Rattle.judy_sets.proofs.range_puts.put_up_to.Goals as goal

pub returns-then-is_empty : goal.returns-then-is_empty
returns-then-is_empty g c =
    let pages = c.pages.pages in
    let page = c.ahead-page in
    let none = at_end pages page.result.now page.ensures.read page.ensures.last (eqb-true (length page.result.now) 0 (sym c.is_empty.ensures ∙ c.if-is_empty.true)) in
    c.pages.invariant.later c.pages.made (front_none g.V.Words.WORDS c.args.to c.pages.made (rest pages) (λ key low. ap (find word_order key) none))

pub returns-then-count-page : goal.returns-then-count-page
returns-then-count-page g c =
    let words = g.V.Words.WORDS in
    let pages = c.pages.pages in
    let page = c.ahead-page.result.now in
    let count = c.count_up_to-count.result in
    let front = c.count_up_to-count.ensures in
    let is : rest pages ≡ page ++ pages.1 = ap (λ (ps : Pairs). ps ++ pages.1) (sym c.ahead-page.ensures.read) in
    c.pages.invariant.later c.put_all.new.made
    (front_join words c.args.to c.pages.made c.put_all.new.made c.put_all.new.made (rest pages) (take count page) (drop count page ++ pages.1)
    (is ∙ front_and_rest count page pages.1)
    front.inside c.in_ok-put_all.ensures
    (front_none words c.args.to c.put_all.new.made (drop count page ++ pages.1)
    (λ key low. past_front c.args.to key count page pages.1 c.if-count-page.true (front.next c.if-count-page.true) (subst (Ascends 0) is c.pages.invariant.up) low)))

pub pages-preserved : goal.pages-preserved
pages-preserved g c =
    let words = g.V.Words.WORDS in
    let pages = c.pages.pages in
    let page = c.ahead-page.result.now in
    let count = c.count_up_to-count.result in
    let is : rest pages ≡ page ++ pages.1 = ap (λ (ps : Pairs). ps ++ pages.1) (sym c.ahead-page.ensures.read) in
    let behind : drop count page ++ pages.1 ≡ rest c.pass.new.self = ap (λ (ps : Pairs). drop count ps ++ pages.1) c.ahead-page.ensures.read ∙ sym c.pass.ensures in
    record {
      up = after_pass pages c.pass.new.self count c.pass.ensures c.pages.invariant.up;
      later = λ new put. c.pages.invariant.later new
          (front_join words c.args.to c.pages.made c.put_all.new.made new (rest pages) (take count page) (rest c.pass.new.self)
          (is ∙ front_and_rest count page pages.1 ∙ ap (λ (ps : Pairs). take count page ++ ps) behind)
          c.count_up_to-count.ensures.inside c.in_ok-put_all.ensures put);
    }
