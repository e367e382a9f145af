use Rattle.std.proofs.Common.{ℕ, ◌+◌, ◌/◌, List, set, length, insert, ap, sym, ◌∙◌, arith}
use Rattle.std.proofs.lemmas.List.Sums.{sum_by-take-drop}
use Rattle.judy_sums.specs.Pairs.{sum_of}
use Rattle.judy_sums.specs.Chunks.{totals_of}
use Rattle.judy_sums.proofs.ChunkLemmas.{sum_within}
use Rattle.judy_sums.proofs.RowLemmas.{all_set, each_set, is_lent, its_total, totals_along, totals_insert}
use Rattle.judy_sums.proofs.row.Chunks.part.Goals as goal

pub total-total-requires : goal.total-total-requires
total-total-requires c =
    let chunks = c.reserve.new.self.items in
    let view = c.in_ok-reserve.ensures.items ∙ c.self.view_is in
    let are = totals_along chunks c.self.inside.list.items c.reserve-2.new.self.items c.self.inside.totals.items c.reserve-3.new.self.items c.self.inside.groups.items
    c.in_ok-reserve.ensures.items c.in_ok-reserve-2.ensures.items c.in_ok-reserve-3.ensures.items c.self.invariant in
    let lent = c.index_mut.result.now in
    let is = ap sum_of (is_lent chunks c.args.self.now c.reserve-2.new.self.items c.reserve-3.new.self.items view are c.args.at c.requires.within lent c.index_mut.ensures.value) in
    let upper = ap sum_of c.in_ok-upper.ensures.upper in
    let parts = sum_by-take-drop (λ (pair : ℕ × ℕ). pair.1) lent (length lent / 2) in
    let most = sum_within c.args.self.now c.args.at c.requires.within in
    let fits = c.requires.fits in
    omega arith

pub subtract-requires-clause-some : goal.subtract-requires-clause-some
subtract-requires-clause-some c =
    let chunks = c.reserve.new.self.items in
    let view = c.in_ok-reserve.ensures.items ∙ c.self.view_is in
    let are = totals_along chunks c.self.inside.list.items c.reserve-2.new.self.items c.self.inside.totals.items c.reserve-3.new.self.items c.self.inside.groups.items
    c.in_ok-reserve.ensures.items c.in_ok-reserve-2.ensures.items c.in_ok-reserve-3.ensures.items c.self.invariant in
    let lent = c.index_mut.result.now in
    let total = its_total chunks c.args.self.now c.reserve-2.new.self.items c.reserve-3.new.self.items view are c.args.at c.requires.within lent c.index_mut.ensures.value in
    let upper = ap sum_of c.in_ok-upper.ensures.upper in
    let is = c.total-total.ensures in
    let parts = sum_by-take-drop (λ (pair : ℕ × ℕ). pair.1) lent (length lent / 2) in
    omega arith

pub put_in-requires-clause-fits : goal.put_in-requires-clause-fits
put_in-requires-clause-fits c =
    let chunks = c.reserve.new.self.items in
    let totals = c.reserve-2.new.self.items in
    let view = c.in_ok-reserve.ensures.items ∙ c.self.view_is in
    let are = totals_along chunks c.self.inside.list.items totals c.self.inside.totals.items c.reserve-3.new.self.items c.self.inside.groups.items
    c.in_ok-reserve.ensures.items c.in_ok-reserve-2.ensures.items c.in_ok-reserve-3.ensures.items c.self.invariant in
    let lent = c.index_mut.result.now in
    let total = its_total chunks c.args.self.now totals c.reserve-3.new.self.items view are c.args.at c.requires.within lent c.index_mut.ensures.value in
    let upper = ap sum_of c.in_ok-upper.ensures.upper in
    let is = c.total-total.ensures in
    let parts = sum_by-take-drop (λ (pair : ℕ × ℕ). pair.1) lent (length lent / 2) in
    let all = all_set chunks c.args.self.now totals c.reserve-3.new.self.items view are c.args.at c.requires.within _ _ c.subtract.ensures.changed in
    let fits = c.requires.fits in
    omega arith

pub invariant_of-self-2 : goal.invariant_of-self-2
invariant_of-self-2 c =
    let chunks = c.reserve.new.self.items in
    let totals = c.reserve-2.new.self.items in
    let view = c.in_ok-reserve.ensures.items ∙ c.self.view_is in
    let are = totals_along chunks c.self.inside.list.items totals c.self.inside.totals.items c.reserve-3.new.self.items c.self.inside.groups.items
    c.in_ok-reserve.ensures.items c.in_ok-reserve-2.ensures.items c.in_ok-reserve-3.ensures.items c.self.invariant in
    let lent = c.index_mut.result.now in
    let total = its_total chunks c.args.self.now totals c.reserve-3.new.self.items view are c.args.at c.requires.within lent c.index_mut.ensures.value in
    let upper = ap sum_of c.in_ok-upper.ensures.upper in
    let lower = ap sum_of c.in_ok-upper.ensures.lower in
    let is = c.total-total.ensures in
    let parts = sum_by-take-drop (λ (pair : ℕ × ℕ). pair.1) lent (length lent / 2) in
    let halved = each_set chunks c.args.self.now totals c.reserve-3.new.self.items view are c.args.at c.requires.within c.cut_half.new.self _ _ c.subtract.ensures.changed (omega arith) in
    record {
      each = c.put_in.ensures.inserted
          ∙ ap (λ (totals : List ℕ). insert totals (c.args.at + 1) c.total-total.result) halved
          ∙ ap (λ (n : ℕ). insert (totals_of (set chunks c.args.at c.cut_half.new.self)) (c.args.at + 1) n) is
          ∙ sym (totals_insert (set chunks c.args.at c.cut_half.new.self) (c.args.at + 1) c.in_ok-upper.upper)
          ∙ ap totals_of (sym c.in-Ok.ensures.items);
      grouped = c.put_in.ensures.are;
    }
