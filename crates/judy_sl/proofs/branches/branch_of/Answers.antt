use Rattle.std.proofs.Common.{◌≤◌, ◌∙◌, sym, arith, length, subst}
use Rattle.std.proofs.lemmas.List.{take_rest, length-drop}
use Rattle.judy_model.specs.Keys.{word_order}
use Rattle.judy_model.specs.Arrays.{ArrayOf}
use Rattle.judy_sl.specs.Branches.{IsSprout}
use Rattle.judy_sl.proofs.lemmas.pieces.Branching.{common-long, common-more}
use Rattle.judy_sl.proofs.branches.branch_of.Goals as goal

pub slice_bounds-held-count : goal.slice_bounds-held-count
slice_bounds-held-count c = (common-long _ _ _ _ _ c.loop-piece.invariant (sym c.first_piece.ensures ∙ c.loop-piece-test.true ∙ c.first_piece-in-loop-piece.ensures)).0

pub slice_bounds-held-start : goal.slice_bounds-held-start
slice_bounds-held-start c = omega (arith, (common-long _ _ _ _ _ c.loop-piece.invariant (sym c.first_piece.ensures ∙ c.loop-piece-test.true ∙ c.first_piece-in-loop-piece.ensures)).0)

pub slice_bounds-rest-count : goal.slice_bounds-rest-count
slice_bounds-rest-count c = (common-long _ _ _ _ _ c.loop-piece.invariant (sym c.first_piece.ensures ∙ c.loop-piece-test.true ∙ c.first_piece-in-loop-piece.ensures)).1

pub slice_bounds-rest-start : goal.slice_bounds-rest-start
slice_bounds-rest-start c = omega (arith, (common-long _ _ _ _ _ c.loop-piece.invariant (sym c.first_piece.ensures ∙ c.loop-piece-test.true ∙ c.first_piece-in-loop-piece.ensures)).1)

pub loop-piece-smaller : goal.loop-piece-smaller
loop-piece-smaller c =
    let h : 8 ≤ length c.loop-piece.rest.now = (common-long _ _ _ _ _ c.loop-piece.invariant (sym c.first_piece.ensures ∙ c.loop-piece-test.true ∙ c.first_piece-in-loop-piece.ensures)).1 in
    rw take_rest (let l = length-drop 8 c.loop-piece.rest.now in omega (arith, l))

pub loop-piece-preserved : goal.loop-piece-preserved
loop-piece-preserved c =
    let same = sym c.first_piece.ensures ∙ c.loop-piece-test.true ∙ c.first_piece-in-loop-piece.ensures in
    rw (take_rest c.loop-piece.held.now 8, take_rest c.loop-piece.rest.now 8) (
    common-more _ _ _ _ _ c.loop-piece.invariant same c.push.new.self.items c.first_piece-piece.result c.in_ok-level.level c.first_piece-piece.ensures c.in_ok-level.ensures c.in_ok-push.ensures.items
    )

pub returns : goal.returns
returns c = record {
  held = c.loop-piece.held.now;
  rest = c.loop-piece.rest.now;
  singles = c.loop-piece.invariant.singles;
  inner = c.loop-piece.invariant.inner;
  held_parts = c.loop-piece.invariant.held_parts;
  rest_parts = c.loop-piece.invariant.rest_parts;
  held_text = c.loop-piece.invariant.held_text;
  rest_text = c.loop-piece.invariant.rest_text;
  held_short = c.loop-piece.invariant.held_short;
  rest_short = c.loop-piece.invariant.rest_short;
  differ = λ e. c.loop-piece-test.false (c.first_piece.ensures ∙ e ∙ sym c.first_piece-in-loop-piece.ensures);
  middle = c.sprout.new.level;
  old = subst (λ (l : ArrayOf word_order). IsSprout l c.sprout.new.level c.loop-piece.held.now c.args.value c.in_ok-old.old) c.unbounded-fork.ensures c.in_ok-old.ensures;
  new = c.in_ok-new.ensures;
}
