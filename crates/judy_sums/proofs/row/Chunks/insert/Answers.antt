use Rattle.std.proofs.Common.{ℕ, ap, arith}
use Rattle.std.proofs.lemmas.List.Sums.{sum_by-insert}
use Rattle.judy_sums.specs.Pairs.{sum_of}
use Rattle.judy_sums.proofs.RowLemmas.{all_totals, each_set, its_total}
use Rattle.judy_sums.proofs.row.Chunks.insert.Goals as goal

pub add-requires-clause-fits : goal.add-requires-clause-fits
add-requires-clause-fits c =
    let whole = all_totals c.self.inside.list.items c.args.self.now c.self.inside.totals.items c.self.inside.groups.items c.self.view_is c.self.invariant in
    let number = c.number-number.ensures in
    let fits = c.requires.fits in
    omega arith

pub invariant_of-self-2 : goal.invariant_of-self-2
invariant_of-self-2 c =
    let chunks = c.self.inside.list.items in
    let now = c.args.self.now in
    let totals = c.self.inside.totals.items in
    let groups = c.self.inside.groups.items in
    let lent = c.index_mut.result.now in
    let at = c.args.spot.chunk in
    let total = its_total chunks now totals groups c.self.view_is c.self.invariant at c.requires.chunk lent c.index_mut.ensures.value in
    let new = ap sum_of c.in_ok-insert.ensures.inserted in
    let sums = sum_by-insert (λ (pair : ℕ × ℕ). pair.1) lent c.args.spot.at c.args.entry in
    let number = c.number-number.ensures in
    record {
      each = each_set chunks now totals groups c.self.view_is c.self.invariant at c.requires.chunk c.insert.new.self _ _ c.add.ensures.changed (omega arith);
      grouped = c.add.ensures.are;
    }
