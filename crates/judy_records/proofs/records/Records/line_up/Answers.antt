use Rattle.judy_records.proofs.PagesTrim.{pages-alike}
use Rattle.judy_records.proofs.ListHolds.{per}
use Rattle.judy_records.proofs.records.Records.line_up.Goals as goal

pub invariant_of-self : goal.invariant_of-self
invariant_of-self c =
    let list = c.self.inside in
    let are = c.self.invariant in record {
      pages = pages-alike list.size (per list are) list.end list.pages.items list.turns c.sort.new.self are.pages c.sort.ensures;
      shift_is = are.shift_is;
      size_within = are.size_within;
      most = are.most;
    }
