use Rattle.std.proofs.Common.{◌≡◌, ◌<◌, ◌≤◌, ◌*◌, ◌+◌, ◌^◌, get_or, sym, ap, subst, ◌∙◌, arith}
use Rattle.judy_records.specs.Pages.{per_of, page_of, size_of}
use Rattle.judy_records.specs.Spots.{RecordList, IsNext}
use Rattle.judy_records.specs.Memory.{IsTight}
use Rattle.judy_records.proofs.PageOf.{per-is, per-some}
use Rattle.judy_records.proofs.PagesHold.{pages-next, page-used, page-within}
use Rattle.judy_records.proofs.records.Records.law.Goals as goal

pub returns-clause-next : goal.returns-clause-next
returns-clause-next c =
    let list = c.self.inside in
    subst (λ (seen : RecordList). IsNext seen.spots seen.next) c.self.view_is
    (pages-next list.size (2 ^ list.shift) list.end (per-some list.shift) list.pages.items list.turns c.self.invariant.pages)

pub returns-clause-memory : goal.returns-clause-memory
returns-clause-memory c =
    let list = c.self.inside in
    let per = per-is list.size list.shift c.self.invariant.shift_is in
    subst IsTight c.self.view_is (record {
      used = λ number has.
          let used = page-used list.size (2 ^ list.shift) list.end (per-some list.shift) list.pages.items list.turns c.self.invariant.pages number has in
          record { place = used.0; held = used.1; here = ap (λ n. page_of n used.0) per ∙ used.2 };
      within = λ number.
          let within = page-within list.size (2 ^ list.shift) list.end (per-some list.shift) list.pages.items list.turns c.self.invariant.pages number in
          let sizes = ap (λ n. size_of n number * (list.size + 1)) per in
          omega (arith, within, sizes);
    })
