use Rattle.std.proofs.Common.{ap, sym, ◌∙◌}
use Rattle.std.specs.Ordering.{is_lt}
use Rattle.std.proofs.lemmas.List.{take_rest}
use Rattle.judy_sl.proofs.lemmas.pieces.PieceLemmas.{text-drop}
use Rattle.judy_sl.proofs.lemmas.made.SortedRuns.{below-first, behind-first, left-ends, right-ends}
use Rattle.judy_sl.proofs.sorted.is_below.Goals as goal

pub returns-then-piece-beside : goal.returns-then-piece-beside
returns-then-piece-beside c =
    below-first c.pieces.left.now c.pieces.right.now c.first_piece-piece.result c.first_piece-beside.result c.pieces.invariant.left c.pieces.invariant.right
    c.first_piece-piece.ensures c.first_piece-beside.ensures c.if-piece-beside.true
    ∙ ap is_lt c.pieces.invariant.same

pub returns-then-left-le8 : goal.returns-then-left-le8
returns-then-left-le8 c =
    left-ends c.pieces.left.now c.pieces.right.now c.if-left-le8.true
    ∙ ap is_lt (sym (behind-first c.pieces.left.now c.pieces.right.now c.first_piece-piece.result c.first_piece-beside.result c.pieces.invariant.left
    c.pieces.invariant.right c.first_piece-piece.ensures c.first_piece-beside.ensures c.if-piece-beside.false) ∙ c.pieces.invariant.same)

pub returns-then-right-le8 : goal.returns-then-right-le8
returns-then-right-le8 c =
    right-ends c.pieces.left.now c.pieces.right.now c.if-right-le8.true
    ∙ ap is_lt (sym (behind-first c.pieces.left.now c.pieces.right.now c.first_piece-piece.result c.first_piece-beside.result c.pieces.invariant.left
    c.pieces.invariant.right c.first_piece-piece.ensures c.first_piece-beside.ensures c.if-piece-beside.false) ∙ c.pieces.invariant.same)

pub pieces-preserved : goal.pieces-preserved
pieces-preserved c =
    rw (take_rest c.pieces.left.now 8, take_rest c.pieces.right.now 8) (record {
      left = text-drop 8 c.pieces.left.now c.pieces.invariant.left;
      right = text-drop 8 c.pieces.right.now c.pieces.invariant.right;
      same =
          sym (behind-first c.pieces.left.now c.pieces.right.now c.first_piece-piece.result c.first_piece-beside.result c.pieces.invariant.left c.pieces.invariant.right
          c.first_piece-piece.ensures c.first_piece-beside.ensures c.if-piece-beside.false) ∙ c.pieces.invariant.same;
    })
