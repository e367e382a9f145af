use Rattle.std.proofs.Common.{◌≡◌, ℕ, ◌-◌, List, [], ◌∷◌, length, get_or, set, remove, refl, ap, sym, ◌∙◌, arith}
use Rattle.judy_sums.specs.Pairs.{Pairs, sum_of}
use Rattle.judy_sums.specs.Chunks.{totals_of, with_left}
use Rattle.judy_sums.proofs.RowLemmas.{all_set, each_set, is_lent, its_total, sum_remove, totals_remove, removed_set}
use Rattle.judy_sums.proofs.row.Chunks.remove.Goals as goal

pub take_out-requires-clause-fits : goal.take_out-requires-clause-fits
take_out-requires-clause-fits c =
    let totals = c.self.inside.totals.items in
    let at = c.args.spot.chunk in
    let all = all_set c.self.inside.list.items c.args.self.now totals c.self.inside.groups.items c.self.view_is c.self.invariant at c.requires.chunk _ _ c.subtract.ensures.changed in
    let fits = c.requires.fits in
    omega arith

pub invariant_of-self-else-left-eq0 : goal.invariant_of-self-else-left-eq0
invariant_of-self-else-left-eq0 c =
    let chunks = c.self.inside.list.items in
    let now = c.args.self.now in
    let totals = c.self.inside.totals.items in
    let groups = c.self.inside.groups.items in
    let lent = c.index_mut-chunk.result.now in
    let at = c.args.spot.chunk in
    let total = its_total chunks now totals groups c.self.view_is c.self.invariant at c.requires.chunk lent c.index_mut-chunk.ensures.value in
    let long = ap (λ (pairs : Pairs). length pairs) (is_lent chunks now totals groups c.self.view_is c.self.invariant at c.requires.chunk lent c.index_mut-chunk.ensures.value) in
    let place = c.requires.place in
    let new = ap sum_of c.remove-number.ensures.removed in
    let number = c.remove-number.ensures.number in
    let sums = sum_remove lent c.args.spot.at (omega arith) in
    record {
      each = each_set chunks now totals groups c.self.view_is c.self.invariant at c.requires.chunk c.remove-number.new.self _ _ c.subtract.ensures.changed (omega arith);
      grouped = c.subtract.ensures.are;
    }

pub invariant_of-self : goal.invariant_of-self
invariant_of-self c = record {
  each = c.take_out.ensures.removed
      ∙ ap (λ (totals : List ℕ). remove totals c.args.spot.chunk) c.subtract.ensures.changed
      ∙ removed_set c.self.inside.totals.items c.args.spot.chunk (get_or c.self.inside.totals.items c.args.spot.chunk 0 - c.remove-number.result)
      ∙ ap (λ (totals : List ℕ). remove totals c.args.spot.chunk) c.self.invariant.each
      ∙ sym (totals_remove c.self.inside.list.items c.args.spot.chunk)
      ∙ ap totals_of (sym (removed_set c.self.inside.list.items c.args.spot.chunk c.remove-number.new.self))
      ∙ ap totals_of (sym c.remove.ensures.items);
  grouped = c.take_out.ensures.are;
}

left_gone : (chunks : List Pairs) (at : ℕ) (left : Pairs) → length left ≡ 0 → with_left chunks at left ≡ remove chunks at
left_gone chunks at [] none = refl
left_gone chunks at (pair ∷ rest) none = absurd (omega arith)

left_kept : (chunks : List Pairs) (at : ℕ) (left : Pairs) → (length left ≡ 0 → ⊥) → with_left chunks at left ≡ set chunks at left
left_kept chunks at [] some = absurd (some refl)
left_kept chunks at (pair ∷ rest) some = refl

pub returns-then-left-eq0 : goal.returns-then-left-eq0
returns-then-left-eq0 c =
    let chunks = c.self.inside.list.items in
    let at = c.args.spot.chunk in
    let lent = c.index_mut-chunk.result.now in
    let left = c.remove-number.ensures.removed ∙ ap (λ (pairs : Pairs). remove pairs c.args.spot.at)
    (is_lent chunks c.args.self.now c.self.inside.totals.items c.self.inside.groups.items c.self.view_is c.self.invariant at c.requires.chunk lent c.index_mut-chunk.ensures.value) in
    let none : length (remove (get_or c.args.self.now at []) c.args.spot.at) ≡ 0 = sym (ap (λ (pairs : Pairs). length pairs) left) ∙ sym c.len-left.ensures ∙ c.if-left-eq0.true in
    c.remove.ensures.items
    ∙ removed_set chunks at c.remove-number.new.self
    ∙ ap (λ (all : List Pairs). remove all at) c.self.view_is
    ∙ sym (left_gone c.args.self.now at (remove (get_or c.args.self.now at []) c.args.spot.at) none)

pub returns-else-left-eq0 : goal.returns-else-left-eq0
returns-else-left-eq0 c =
    let chunks = c.self.inside.list.items in
    let at = c.args.spot.chunk in
    let lent = c.index_mut-chunk.result.now in
    let left = c.remove-number.ensures.removed ∙ ap (λ (pairs : Pairs). remove pairs c.args.spot.at)
    (is_lent chunks c.args.self.now c.self.inside.totals.items c.self.inside.groups.items c.self.view_is c.self.invariant at c.requires.chunk lent c.index_mut-chunk.ensures.value) in
    ap (λ (all : List Pairs). set all at c.remove-number.new.self) c.self.view_is
    ∙ ap (λ (pairs : Pairs). set c.args.self.now at pairs) left
    ∙ sym (left_kept c.args.self.now at (remove (get_or c.args.self.now at []) c.args.spot.at) (λ none. c.if-left-eq0.false (c.len-left.ensures ∙ ap (λ (pairs : Pairs). length pairs) left ∙ none)))
