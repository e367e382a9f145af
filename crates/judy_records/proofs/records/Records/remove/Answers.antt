use Rattle.std.proofs.Common.{◌≡◌, length, ap, refl, sym, ◌∙◌, arith, get_or, set}
use Rattle.std.proofs.lemmas.List.{get_or-set_other}
use Rattle.judy_records.specs.Spots.{RecordList, spot_at, free}
use Rattle.judy_records.proofs.PagesHold.{all-free}
use Rattle.judy_records.proofs.ListHolds.{per, some}
use Rattle.judy_records.proofs.records.Records.remove.Goals as goal

pub returns-then-all_gone : goal.returns-then-all_gone
returns-then-all_gone c =
    let list = c.self.inside in
    let are = c.self.invariant in
    record {
      size = ap (λ (seen : RecordList). seen.size) c.self.view_is ∙ c.take_out.ensures.size;
      here = λ is. is;
      elsewhere = λ other apart.
          sym (all-free list.size (per list are) list.end (some list are) list.pages.items list.turns are.pages (c.if-all_gone.ensures.0 refl) other)
          ∙ ap (λ (seen : RecordList). spot_at seen other) c.self.view_is
          ∙ ap (λ spots. get_or spots other (free 0)) c.take_out.ensures.spots
          ∙ get_or-set_other c.args.self.now.spots c.args.place other (free 0) (free 0) apart;
      long = omega arith;
    }
