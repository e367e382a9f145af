use Rattle.std.proofs.Common.{◌≡◌, ℕ, zero, ◌+◌, ◌-◌, ◌/◌, slice_index, ap, sym, subst, ◌∙◌, arith}
use Rattle.judy_leaf.specs.Packing.{places, pushed, HasZeroPadding}
use Rattle.judy_leaf.specs.Edits.{IsEdit}
use Rattle.judy_leaf.proofs.Placed.{per_pos}
use Rattle.judy_leaf.proofs.EditSteps.{push_one, tight_still, not_yet}
use Rattle.judy_leaf.proofs.edit.push_words.Goals as goal

pub with_key-here-requires-clause-tight : goal.with_key-here-requires-clause-tight
with_key-here-requires-clause-tight g c =
    subst (HasZeroPadding g.row.W) (sym c.get-in-loop-at.ensures) (tight_still g.row.W c.requires.width c.loop-at.at
    (c.loop-at.at - 1) c.args.word _ c.args.block.now c.loop-at.block c.loop-at.invariant.0
    (omega (arith, c.loop-at.invariant.1)) (omega (arith, c.loop-at.invariant.1)) (omega (arith, c.loop-at.invariant.1, c.loop-at.invariant.2)) c.requires.tight)

pub loop-at-preserved : goal.loop-at-preserved
loop-at-preserved g c =
    let word = c.loop-at.at - 1 in
    let before = c.args.block.now in
    let edit = c.loop-at.invariant.0 in
    let start = c.loop-at.invariant.1 in
    let end = c.loop-at.invariant.2 in
    let e : c.loop-at.at ≡ word + 1 = omega arith in
    let last : ℕ → ℕ = λ i. slice_index (places g.row.W (slice_index before.words i)) (8 / g.row.W - 1) in
    let here : c.get-in-loop-at.result ≡ slice_index before.words word = c.get-in-loop-at.ensures ∙ not_yet g.row.W c.requires.width c.loop-at.at word
    (pushed zero (last word)) before c.loop-at.block edit (omega arith) in
    let prev : c.get.result ≡ slice_index before.words (word - 1) = c.get.ensures ∙ not_yet g.row.W c.requires.width c.loop-at.at (word - 1)
    (pushed zero (last word)) before c.loop-at.block edit (omega arith) in
    let key : c.key_in-last.result ≡ last (word - 1) = c.key_in-last.ensures.key ∙ ap (λ w. slice_index (places g.row.W w) (8 / g.row.W - 1)) prev in
    let so_far : IsEdit g.row.W (word + 1) (pushed zero (last word)) before c.loop-at.block = subst (λ n. IsEdit g.row.W n (pushed zero (last word)) before c.loop-at.block) e edit in (
      subst (IsEdit g.row.W word (pushed zero (last (word - 1))) before) (sym c.put.ensures)
          (push_one g.row.W c.requires.width word (last (word - 1)) before c.loop-at.block 0 c.with_key-here.result (omega arith)
          (per_pos g.row.W c.requires.width) so_far c.with_key-here.ensures.tight
          (c.with_key-here.ensures.places ∙ (λ t. pushed zero (key t) (places g.row.W (here t))))),
      omega arith,
      omega arith,
    )
