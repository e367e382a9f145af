use Rattle.std.proofs.Common.{ℕ, Some, sym, ap, ◌∙◌}
use Rattle.judy_sl.specs.TextsLeft.{left_behind}
use Rattle.judy_sl.proofs.lemmas.readers.TextSteps.{texts_left, meet_behind}
use Rattle.judy_sl.proofs.reader.KeyReader.meets.Goals as goal

pub pieces-preserved : goal.pieces-preserved
pieces-preserved c =
    let first = sym c.in-Some.is ∙ c.next_piece.ensures.piece in
    let other = ap (λ (piece : ℕ). Some piece) (sym c.if-own-piece.false) ∙ sym c.in-Some-next_piece.is ∙ c.next_piece-in-Some.ensures.piece in
    let text = texts_left c.pieces.key.left c.next_piece.ensures.is_string in (
      λ same. c.pieces.invariant.0 (meet_behind c.pieces.key.left c.pieces.other c.in-Some.piece text c.next_piece-in-Some.ensures.is_text first other
          (sym c.next_piece.ensures.left ∙ same ∙ c.next_piece-in-Some.ensures.left)),
      λ same. c.next_piece.ensures.left ∙ ap left_behind (c.pieces.invariant.1 same) ∙ sym c.next_piece-in-Some.ensures.left,
    )
