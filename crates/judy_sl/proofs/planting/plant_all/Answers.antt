use Rattle.std.proofs.Common.{ℕ, ◌+◌, List, [], length, get_or, drop, sym, ap, subst, ◌∙◌, arith}
use Rattle.std.specs.Borrow.{Bor}
use Rattle.std.specs.FinMap.{FinMap}
use Rattle.judy_model.specs.Keys.{byte_order}
use Rattle.std.proofs.lemmas.List.{length_push}
use Rattle.judy_sl.specs.Arenas.{map_of, AreWithin}
use Rattle.judy_sl.specs.Pieces.{piece_of}
use Rattle.judy_sl.specs.Planted.{openers, planted, AreBelow, IsPlanted}
use Rattle.judy_sl.specs.Sorted.{pairs_in, with_pairs}
use Rattle.judy_sl.specs.declared.arena.Arena.{Arena}
use Rattle.judy_sl.proofs.lemmas.made.Openers.{opens-above, opened, passed}
use Rattle.judy_sl.proofs.lemmas.made.PlantedKeys.{below-more}
use Rattle.judy_sl.proofs.lemmas.pieces.Strings.{within-none, within-more, within-insert, key-within, string_of_key}
use Rattle.judy_sl.proofs.planting.plant_all.Goals as goal
use Rattle.judy_sl.proofs.planting.plant_all.Goals.{then-opens+in_ok-plant, else-opens}

pub pairs-preserved : goal.pairs-preserved
pairs-preserved g c =
    let is = c.pairs.invariant in
    let within = c.pairs-test.true in
    let none : Bor (List ℕ) × ℕ = (record { ref_ptr = (0, 0); now = [] }, 0) in
    let pair : Bor (List ℕ) × ℕ = get_or c.args.pairs.now c.pairs.pair-index none in
    let rest = pairs_in (drop (c.pairs.pair-index + 1) c.args.pairs.now) in
    elim c.if-opens.branch [
      | then-opens+in_ok-plant w ↦
          let opens_is = sym c.opens.ensures ∙ w.if-opens.true in
          let entry = w.in_ok-plant.ensures.entry in
          let low_is = w.low-is ∙ w.first_piece-low.ensures in
          record {
            are_in = subst (λ e. IsPlanted c.if-opens.arena e.items) (sym w.entries-is) (subst (λ (a : Arena). IsPlanted a w.plant.new.entries.items) (sym w.arena-is) w.in_ok-plant.ensures.planted);
            below = λ word less.
                let above = opens-above c.pairs.low pair.0.now opens_is in
                subst (λ e. AreBelow word e.items) (sym w.entries-is) (subst (AreBelow word) (sym entry.1)
                (below-more c.pairs.entries.items (piece_of pair.0.now) entry.0 word (is.below word (omega (arith, above, less, low_is))) (omega (arith, less, low_is))));
            within = subst (λ (n : ℕ). AreWithin n (map_of (planted c.if-opens.arena c.if-opens.entries.items))) (sym w.longest-is)
                (subst (λ (a : Arena). AreWithin w.max-longest.result (map_of (planted a c.if-opens.entries.items))) (sym w.arena-is)
                (subst (λ e. AreWithin w.max-longest.result (map_of (planted w.plant.new.arena e.items))) (sym w.entries-is)
                (subst (AreWithin w.max-longest.result) (sym w.in_ok-plant.ensures.map)
                (let more = w.max-longest.ensures in
                within-insert w.max-longest.result _ pair.0.now pair.1 (within-more _ is.within (omega (arith, more))) (omega (arith, more))))));
            most = (let more = w.max-longest.ensures in let long = w.longest-is in let before = is.most in
                let fits = key-within g.L.KeyLength pair.0.now (c.requires.keys c.pairs.pair-index none within) in omega (arith, more, long, before, fits));
            few = (let count = ap length (ap (λ e. e.items) w.entries-is ∙ entry.1) ∙ length_push c.pairs.entries.items (piece_of pair.0.now, entry.0) in
                let before = is.few in omega (arith, count, before));
            goes_on =
                (λ i. with_pairs (map_of (planted (w.arena-is i) (w.entries-is i).items)) (openers (low_is i) rest))
                ∙ ap (λ (map : FinMap byte_order ℕ). with_pairs map (openers (piece_of pair.0.now) rest)) w.in_ok-plant.ensures.map
                ∙ opened c.args.pairs.now c.pairs.pair-index none within c.pairs.low opens_is (map_of (planted c.pairs.arena c.pairs.entries.items))
                ∙ is.goes_on;
          }
      | else-opens w ↦
          let opens_is = sym c.opens.ensures ∙ w.if-opens.false in
          record {
            are_in = subst (λ e. IsPlanted c.if-opens.arena e.items) (sym w.entries-is) (subst (λ (a : Arena). IsPlanted a c.pairs.entries.items) (sym w.arena-is) is.are_in);
            below = λ word less. subst (λ e. AreBelow word e.items) (sym w.entries-is) (is.below word (let low = w.low-is in omega (arith, less, low)));
            within = subst (λ (n : ℕ). AreWithin n (map_of (planted c.if-opens.arena c.if-opens.entries.items))) (sym w.longest-is)
                (subst (λ (a : Arena). AreWithin c.pairs.longest (map_of (planted a c.if-opens.entries.items))) (sym w.arena-is)
                (subst (λ e. AreWithin c.pairs.longest (map_of (planted c.pairs.arena e.items))) (sym w.entries-is) is.within));
            most = (let long = w.longest-is in let before = is.most in omega (arith, long, before));
            few = (let count = ap (λ e. length e.items) w.entries-is in let before = is.few in omega (arith, count, before));
            goes_on =
                (λ i. with_pairs (map_of (planted (w.arena-is i) (w.entries-is i).items)) (openers (w.low-is i) rest))
                ∙ ap (with_pairs (map_of (planted c.pairs.arena c.pairs.entries.items))) (passed c.args.pairs.now c.pairs.pair-index none within c.pairs.low opens_is)
                ∙ is.goes_on;
          }
    ]

pub pairs-init : goal.pairs-init
pairs-init g c = rw c.new-entries.ensures.items (record {
  are_in = c.requires.planted;
  below = λ word less. tt;
  few = omega arith;
  within = subst (AreWithin 0) (sym c.requires.empty) within-none;
  most = omega arith;
  goes_on = ap (λ (map : FinMap byte_order ℕ). with_pairs map (openers 0 (pairs_in c.args.pairs.now))) c.requires.empty;
})

pub plant-requires-clause-is_key : goal.plant-requires-clause-is_key
plant-requires-clause-is_key g c =
    let none : Bor (List ℕ) × ℕ = (record { ref_ptr = (0, 0); now = [] }, 0) in
    string_of_key g.L.KeyLength _ (c.requires.keys c.pairs.pair-index none c.pairs-test.true)
