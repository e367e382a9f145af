use Rattle.std.proofs.Common.{◌+◌, get_or, length, ap, arith}
use Rattle.judy_sums.specs.Pairs.{Pairs, sum_of}
use Rattle.judy_sums.proofs.ChunkLemmas.{sum_within}
use Rattle.judy_sums.proofs.RowLemmas.{all_totals, each_set, is_lent, its_total, sum_set}
use Rattle.judy_sums.proofs.row.Chunks.raise.Goals as goal

pub raise-requires-clause-fits : goal.raise-requires-clause-fits
raise-requires-clause-fits c =
    let now = c.args.self.now in
    let is = ap sum_of (is_lent c.self.inside.list.items now c.self.inside.totals.items c.self.inside.groups.items c.self.view_is c.self.invariant c.args.spot.chunk c.requires.chunk
    c.index_mut.result.now c.index_mut.ensures.value) in
    let most = sum_within now c.args.spot.chunk c.requires.chunk in
    let fits = c.requires.fits in
    omega arith

pub add-requires-clause-fits : goal.add-requires-clause-fits
add-requires-clause-fits c =
    let whole = all_totals c.self.inside.list.items c.args.self.now c.self.inside.totals.items c.self.inside.groups.items c.self.view_is c.self.invariant in
    let fits = c.requires.fits in
    omega arith

pub invariant_of-self : goal.invariant_of-self
invariant_of-self c =
    let chunks = c.self.inside.list.items in
    let now = c.args.self.now in
    let totals = c.self.inside.totals.items in
    let groups = c.self.inside.groups.items in
    let lent = c.index_mut.result.now in
    let at = c.args.spot.chunk in
    let total = its_total chunks now totals groups c.self.view_is c.self.invariant at c.requires.chunk lent c.index_mut.ensures.value in
    let long = ap (λ (pairs : Pairs). length pairs) (is_lent chunks now totals groups c.self.view_is c.self.invariant at c.requires.chunk lent c.index_mut.ensures.value) in
    let place = c.requires.place in
    let new = ap sum_of c.raise.ensures in
    let sums = sum_set lent c.args.spot.at ((get_or lent c.args.spot.at (0, 0)).0, (get_or lent c.args.spot.at (0, 0)).1 + 1) (omega arith) in
    record {
      each = each_set chunks now totals groups c.self.view_is c.self.invariant at c.requires.chunk c.raise.new.self _ _ c.add.ensures.changed (omega arith);
      grouped = c.add.ensures.are;
    }
