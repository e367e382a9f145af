use Rattle.std.proofs.Common.{◌≡◌, ◌≤◌, ℕ, List, ◌++◌, length, take, drop, refl, sym, ap, subst, ◌∙◌, arith}
use Rattle.std.specs.List.{flat_map}
use Rattle.std.specs.FinMap.{entries}
use Rattle.std.proofs.lemmas.List.{drop_all}
use Rattle.judy_model.specs.DumpText as text
use Rattle.judy_sl.proofs.lemmas.places.PageCounts.{page_is}
use Rattle.judy_shelf.specs.Writes.{sunk, Wrote, WroteAll, WroteFront}
use Rattle.judy_shelf.proofs.WriteLemmas.{wrote_err}
use Rattle.judy_shelf.proofs.WalkLemmas.{IsRest, page_failed, page_passed, pages_ended}
use Rattle.judy_shelf.proofs.dumps.write_words.Goals as goal

pub pages-init : goal.pages-init
pages-init g c =
    let line : ℕ × ℕ → List ℕ = λ entry. text.word entry.0 ++ text.word entry.1 in
    let before = sunk (g.W.Sink.taken c.args.sink.now) (g.W.Sink.tally c.args.sink.now).failures in
    (refl, λ result after wrote. subst (λ (pairs : List (ℕ × ℕ)). Wrote (flat_map line pairs) before result after) c.iter-entries.ensures wrote)

pub returns-in_err-put_page : goal.returns-in_err-put_page
returns-in_err-put_page g c =
    let line : ℕ × ℕ → List ℕ = λ entry. text.word entry.0 ++ text.word entry.1 in
    let all = flat_map line (entries c.args.words.now.map) in
    let before = sunk (g.W.Sink.taken c.args.sink.now) (g.W.Sink.tally c.args.sink.now).failures in
    let now = sunk (g.W.Sink.taken c.pages.sink) (g.W.Sink.tally c.pages.sink).failures in
    let after = sunk (g.W.Sink.taken c.put_page.new.sink) (g.W.Sink.tally c.put_page.new.sink).failures in
    let told = c.fill-told.result in
    let within : told ≤ length c.pages.entries = omega (arith, c.fill-told.ensures.count) in
    let page = page_is c.pages.entries c.pages.page c.fill-told.new.out told within c.fill-told.ensures.out in
    wrote_err all before after _ c.from_residual.result c.from_residual.ensures.1
    (page_failed line all before c.in_err-put_page.field-0.0 told c.pages.entries now after c.pages.invariant.1
    (subst (λ keys. WroteFront (flat_map line keys) now after) page c.in_err-put_page.ensures))

pub returns-then-told-lt-PAGE : goal.returns-then-told-lt-PAGE
returns-then-told-lt-PAGE g c =
    let line : ℕ × ℕ → List ℕ = λ entry. text.word entry.0 ++ text.word entry.1 in
    let all = flat_map line (entries c.args.words.now.map) in
    let before = sunk (g.W.Sink.taken c.args.sink.now) (g.W.Sink.tally c.args.sink.now).failures in
    let now = sunk (g.W.Sink.taken c.pages.sink) (g.W.Sink.tally c.pages.sink).failures in
    let mid = sunk (g.W.Sink.taken c.put_page.new.sink) (g.W.Sink.tally c.put_page.new.sink).failures in
    let told = c.fill-told.result in
    let within : told ≤ length c.pages.entries = omega (arith, c.fill-told.ensures.count) in
    let last : length c.pages.entries ≤ told = omega (arith, c.fill-told.ensures.count, c.if-told-lt-PAGE.true) in
    let page = page_is c.pages.entries c.pages.page c.fill-told.new.out told within c.fill-told.ensures.out in
    pages_ended line all before mid
    (subst (IsRest line all before mid) (drop_all told c.pages.entries last)
    (page_passed line all before told c.pages.entries now mid c.pages.invariant.1 (subst (λ keys. WroteAll (flat_map line keys) now mid) page c.in_ok-put_page.ensures)))

pub pages-preserved : goal.pages-preserved
pages-preserved g c =
    let line : ℕ × ℕ → List ℕ = λ entry. text.word entry.0 ++ text.word entry.1 in
    let all = flat_map line (entries c.args.words.now.map) in
    let before = sunk (g.W.Sink.taken c.args.sink.now) (g.W.Sink.tally c.args.sink.now).failures in
    let now = sunk (g.W.Sink.taken c.pages.sink) (g.W.Sink.tally c.pages.sink).failures in
    let mid = sunk (g.W.Sink.taken c.put_page.new.sink) (g.W.Sink.tally c.put_page.new.sink).failures in
    let told = c.fill-told.result in
    let within : told ≤ length c.pages.entries = omega (arith, c.fill-told.ensures.count) in
    let page = page_is c.pages.entries c.pages.page c.fill-told.new.out told within c.fill-told.ensures.out in (
      c.in_ok-put_page.ensures.1 ∙ c.pages.invariant.0,
      subst (IsRest line all before mid) (sym c.fill-told.ensures.left)
          (page_passed line all before told c.pages.entries now mid c.pages.invariant.1 (subst (λ keys. WroteAll (flat_map line keys) now mid) page c.in_ok-put_page.ensures)),
    )
