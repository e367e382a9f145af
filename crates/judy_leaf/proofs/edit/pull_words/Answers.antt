use Rattle.std.proofs.Common.{◌≡◌, zero, ◌+◌, ◌-◌, drop, slice_index, ap, sym, subst, ◌∙◌, arith, refl}
use Rattle.judy_leaf.specs.Packing.{places, pulled, HasZeroPadding}
use Rattle.judy_leaf.specs.Edits.{IsEdit, IsFirstPlace}
use Rattle.judy_leaf.proofs.Placed.{per_pos}
use Rattle.judy_leaf.proofs.WordSteps.{base_pos}
use Rattle.judy_leaf.proofs.EditSteps.{pull_one, tight_still, not_yet, no_word, first_here, first_none}
use Rattle.judy_leaf.proofs.edit.pull_words.Goals as goal

pub loop-at-init : goal.loop-at-init
loop-at-init g c =
    let long = c.len-end.ensures.count in (
      no_word g.row.W c.requires.width c.len-end.result (pulled zero 0) c.args.block.now (omega arith) refl,
      first_none g.row.W c.requires.width c.args.block.now.words c.len-end.result (omega arith),
      base_pos g.row.W c.requires.width,
      omega arith,
      omega arith,
    )

pub without_key-requires-clause-tight : goal.without_key-requires-clause-tight
without_key-requires-clause-tight g c =
    subst (HasZeroPadding g.row.W) (sym c.get-here.ensures) (tight_still g.row.W c.requires.width c.loop-at.at (c.loop-at.at - 1) c.args.word
    (pulled zero 0) c.args.block.now c.loop-at.block c.loop-at.invariant.0
    (omega (arith, c.loop-at.invariant.3)) (omega (arith, c.loop-at.invariant.3)) (omega (arith, c.loop-at.invariant.3, c.loop-at.invariant.4)) c.requires.tight)

pub loop-at-preserved : goal.loop-at-preserved
loop-at-preserved g c =
    let word = c.loop-at.at - 1 in
    let before = c.args.block.now in
    let edit = c.loop-at.invariant.0 in
    let start = c.loop-at.invariant.3 in
    let end = c.loop-at.invariant.4 in
    let e : c.loop-at.at ≡ word + 1 = omega arith in
    let here : c.get-here.result ≡ slice_index before.words word = c.get-here.ensures ∙ not_yet g.row.W c.requires.width c.loop-at.at word (pulled zero 0) before c.loop-at.block edit (omega arith) in
    let so_far : IsEdit g.row.W (word + 1) (pulled zero 0) before c.loop-at.block = subst (λ n. IsEdit g.row.W n (pulled zero 0) before c.loop-at.block) e edit in
    let first : IsFirstPlace g.row.W (drop (word + 1) before.words) c.loop-at.first = subst (λ n. IsFirstPlace g.row.W (drop n before.words) c.loop-at.first) e c.loop-at.invariant.1 in (
      subst (IsEdit g.row.W word (pulled zero 0) before) (sym c.put.ensures)
          (pull_one g.row.W c.requires.width word c.loop-at.first before c.loop-at.block 0 c.without_key.result (omega arith)
          (per_pos g.row.W c.requires.width) first so_far c.without_key.ensures.tight
          (c.without_key.ensures.places ∙ (λ t. pulled zero c.loop-at.first (places g.row.W (here t))))),
      c.key_in-first.ensures.key ∙ ap (λ w. slice_index (places g.row.W w) 0) here ∙ first_here g.row.W c.requires.width before.words word (omega arith),
      c.key_in-first.ensures.below,
      omega arith,
      omega arith,
    )
