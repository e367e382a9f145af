use Rattle.std.proofs.Common.{◌≡◌, Result, Ok, Err, OnErr, set, ap, sym, ◌∙◌}
use Rattle.std.proofs.lemmas.List.{set-get_or}
use Rattle.judy_records.specs.PageSpots.{PageList}
use Rattle.judy_records.proofs.page_steps.reopen.Goals as goal

on-err : {A E P : Type 0} (result : Result A E) → P → OnErr result P
on-err (Ok value) holds = tt
on-err (Err error) holds = holds

pub returns-in_err-widen-clause-same : goal.returns-in_err-widen-clause-same
returns-in_err-widen-clause-same c =
    let same : c.widen.new.self ≡ c.index_mut-page.result.now = λ i. record {
      size = c.widen.ensures.size i;
      spots = c.widen.ensures.spots i;
      next = c.widen.ensures.next i;
      capacity = c.in_err-widen.ensures.same i;
    } in
    on-err c.from_residual.result
    (ap (set c.args.pages.now.items c.args.number) (same ∙ c.index_mut-page.ensures.value)
    ∙ set-get_or c.args.pages.now.items c.args.number c.index_mut-page.result.now)
