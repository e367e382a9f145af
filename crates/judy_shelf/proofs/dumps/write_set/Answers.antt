use Rattle.std.proofs.Common.{◌≡◌, ◌≤◌, ℕ, List, [], length, take, drop, refl, sym, ap, subst, ◌∙◌, arith}
use Rattle.std.specs.List.{flat_map}
use Rattle.std.specs.FinMap.{entries}
use Rattle.std.proofs.lemmas.List.{drop_all}
use Rattle.std.proofs.lemmas.List.Folds.{flat_map-map}
use Rattle.judy_model.specs.DumpText as text
use Rattle.judy_shelf.specs.Writes.{sunk, Wrote, WroteAll, WroteFront}
use Rattle.judy_shelf.proofs.WriteLemmas.{wrote_err}
use Rattle.judy_shelf.proofs.WalkLemmas.{IsRest, page_failed, page_passed, pages_ended, page_filled}
use Rattle.judy_shelf.proofs.dumps.write_set.Goals as goal

pub pages-init : goal.pages-init
pages-init g c =
    let before = sunk (g.W.Sink.taken c.args.sink.now) (g.W.Sink.tally c.args.sink.now).failures in (
      refl,
      λ result after wrote. subst (λ t. Wrote t before result after)
          (ap (flat_map text.word) c.iter-keys.ensures ∙ flat_map-map text.word (λ (entry : ℕ × ℕ). entry.0) (entries c.args.set.now.map)) wrote,
    )

pub returns-in_err-put_page : goal.returns-in_err-put_page
returns-in_err-put_page g c =
    let all = flat_map (λ (entry : ℕ × ℕ). text.word entry.0) (entries c.args.set.now.map) in
    let before = sunk (g.W.Sink.taken c.args.sink.now) (g.W.Sink.tally c.args.sink.now).failures in
    let now = sunk (g.W.Sink.taken c.pages.sink) (g.W.Sink.tally c.pages.sink).failures in
    let after = sunk (g.W.Sink.taken c.put_page.new.sink) (g.W.Sink.tally c.put_page.new.sink).failures in
    let told = c.fill-told.result in
    let within : told ≤ length c.pages.keys = omega (arith, c.fill-told.ensures.count) in
    let page = page_filled told c.pages.keys c.fill-told.new.out _ within c.fill-told.ensures.out in
    wrote_err all before after _ c.from_residual.result c.from_residual.ensures.1
    (page_failed text.word all before c.in_err-put_page.field-0.0 told c.pages.keys now after c.pages.invariant.1
    (subst (λ keys. WroteFront (flat_map text.word keys) now after) page c.in_err-put_page.ensures))

pub returns-then-told-lt-PAGE : goal.returns-then-told-lt-PAGE
returns-then-told-lt-PAGE g c =
    let all = flat_map (λ (entry : ℕ × ℕ). text.word entry.0) (entries c.args.set.now.map) in
    let before = sunk (g.W.Sink.taken c.args.sink.now) (g.W.Sink.tally c.args.sink.now).failures in
    let now = sunk (g.W.Sink.taken c.pages.sink) (g.W.Sink.tally c.pages.sink).failures in
    let mid = sunk (g.W.Sink.taken c.put_page.new.sink) (g.W.Sink.tally c.put_page.new.sink).failures in
    let told = c.fill-told.result in
    let within : told ≤ length c.pages.keys = omega (arith, c.fill-told.ensures.count) in
    let last : length c.pages.keys ≤ told = omega (arith, c.fill-told.ensures.count, c.if-told-lt-PAGE.true) in
    let page = page_filled told c.pages.keys c.fill-told.new.out _ within c.fill-told.ensures.out in
    pages_ended text.word all before mid
    (subst (IsRest text.word all before mid) (drop_all told c.pages.keys last)
    (page_passed text.word all before told c.pages.keys now mid c.pages.invariant.1 (subst (λ keys. WroteAll (flat_map text.word keys) now mid) page c.in_ok-put_page.ensures)))

pub pages-preserved : goal.pages-preserved
pages-preserved g c =
    let all = flat_map (λ (entry : ℕ × ℕ). text.word entry.0) (entries c.args.set.now.map) in
    let before = sunk (g.W.Sink.taken c.args.sink.now) (g.W.Sink.tally c.args.sink.now).failures in
    let now = sunk (g.W.Sink.taken c.pages.sink) (g.W.Sink.tally c.pages.sink).failures in
    let mid = sunk (g.W.Sink.taken c.put_page.new.sink) (g.W.Sink.tally c.put_page.new.sink).failures in
    let told = c.fill-told.result in
    let within : told ≤ length c.pages.keys = omega (arith, c.fill-told.ensures.count) in
    let page = page_filled told c.pages.keys c.fill-told.new.out _ within c.fill-told.ensures.out in (
      c.in_ok-put_page.ensures.1 ∙ c.pages.invariant.0,
      subst (IsRest text.word all before mid) (sym c.fill-told.ensures.left)
          (page_passed text.word all before told c.pages.keys now mid c.pages.invariant.1 (subst (λ keys. WroteAll (flat_map text.word keys) now mid) page c.in_ok-put_page.ensures)),
    )
