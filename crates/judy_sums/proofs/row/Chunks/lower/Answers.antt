use Rattle.std.proofs.Common.{◌-◌, get_or, length, ap, arith}
use Rattle.judy_sums.specs.Pairs.{Pairs, sum_of}
use Rattle.judy_sums.proofs.RowLemmas.{each_set, is_lent, its_total, sum_set}
use Rattle.judy_sums.proofs.row.Chunks.lower.Goals as goal

pub invariant_of-self : goal.invariant_of-self
invariant_of-self c =
    let chunks = c.self.inside.list.items in
    let now = c.args.self.now in
    let totals = c.self.inside.totals.items in
    let groups = c.self.inside.groups.items in
    let lent = c.index_mut.result.now in
    let at = c.args.spot.chunk in
    let total = its_total chunks now totals groups c.self.view_is c.self.invariant at c.requires.chunk lent c.index_mut.ensures.value in
    let same = is_lent chunks now totals groups c.self.view_is c.self.invariant at c.requires.chunk lent c.index_mut.ensures.value in
    let long = ap (λ (pairs : Pairs). length pairs) same in
    let place = c.requires.place in
    let new = ap sum_of c.lower.ensures in
    let sums = sum_set lent c.args.spot.at ((get_or lent c.args.spot.at (0, 0)).0, (get_or lent c.args.spot.at (0, 0)).1 - 1) (omega arith) in
    let some = c.requires.some in
    let number = ap (λ (pairs : Pairs). (get_or pairs c.args.spot.at (0, 0)).1) same in
    record {
      each = each_set chunks now totals groups c.self.view_is c.self.invariant at c.requires.chunk c.lower.new.self _ _ c.subtract.ensures.changed (omega arith);
      grouped = c.subtract.ensures.are;
    }
