use Rattle.std.proofs.Common.{◌≡◌, ◌≢◌, ◌<◌, ◌⊎◌, ◌∙◌, inl, inr, length, get_or, sym, ap, subst, arith}
use Rattle.std.specs.Int.{to_be_bytes, w64}
use Rattle.std.proofs.lemmas.Bool.{ltb-true}
use Rattle.std.proofs.lemmas.List.{get_or_default}
use Rattle.judy_tails.proofs.TailLemmas.{are-bytes}
use Rattle.judy_sl.specs.Pieces.{IsInner}
use Rattle.judy_sl.proofs.lemmas.readers.SharedBytes.{same_whole, stops, still_within, goes_on}
use Rattle.judy_sl.proofs.reader.shared_in.Goals as goal
use Rattle.judy_sl.proofs.reader.shared_in.Goals.{then-byte-eq0-via-then-byte-eq0, then-byte-eq0-via-else-byte-eq0+then-byte-other}

pub returns-then-piece-first_piece : goal.returns-then-piece-first_piece
returns-then-piece-first_piece c = λ text is piece.
    let are = are-bytes c.args.bytes.now (λ at. omega (arith, c.type_inv.bytes at)) in
    let same = sym piece ∙ c.if-piece-first_piece.true ∙ c.first_piece.ensures in
    sym (same_whole text c.args.bytes.now is are (omega (arith, c.if-bytes-ge8.true)) same (subst IsInner piece c.if-piece-ne0.true))

pub returns-then-byte-eq0 : goal.returns-then-byte-eq0
returns-then-byte-eq0 c = λ text is first.
    let bytes = c.args.bytes.now in
    let at = c.bytes.byte-index in
    let place = c.bytes.invariant.0 in
    let less = ltb-true c.bytes.shared (length bytes) (sym c.in-Some.ensures.lookup.0) in
    let inside : at < length bytes = omega (arith, less, place) in
    let there : c.in-Some.other.now ≡ get_or bytes at 0 = c.in-Some.ensures.lookup.1 ∙ get_or_default bytes c.bytes.shared _ 0 less ∙ ap (λ k. get_or bytes k 0) place in
    let byte = ap (λ all. get_or all at 0) c.to_be_bytes-byte-items.ensures in
    let why : (get_or (to_be_bytes w64 c.args.piece) at 0 ≡ 0) ⊎ (get_or (to_be_bytes w64 c.args.piece) at 0 ≢ get_or bytes at 0) = elim c.then-byte-eq0.branch [
      | then-byte-eq0-via-then-byte-eq0 w ↦ inl (sym byte ∙ w.if-byte-eq0.true)
      | then-byte-eq0-via-else-byte-eq0+then-byte-other w ↦ inr (λ same. w.if-byte-other.true (byte ∙ same ∙ sym there))
    ] in
    let stop = stops text bytes is c.args.piece first at c.bytes-test.true inside why in
    let all = (c.bytes.invariant.1 text is first).1 in
    omega (arith, place, stop, all)

pub bytes-preserved : goal.bytes-preserved
bytes-preserved c =
    let bytes = c.args.bytes.now in
    let at = c.bytes.byte-index in
    let place = c.bytes.invariant.0 in
    let less = ltb-true c.bytes.shared (length bytes) (sym c.in-Some.ensures.lookup.0) in
    let inside : at < length bytes = omega (arith, less, place) in
    let there : c.in-Some.other.now ≡ get_or bytes at 0 = c.in-Some.ensures.lookup.1 ∙ get_or_default bytes c.bytes.shared _ 0 less ∙ ap (λ k. get_or bytes k 0) place in
    let byte = ap (λ all. get_or all at 0) c.to_be_bytes-byte-items.ensures in (
      omega (arith, place),
      λ text is first.
          let some : get_or (to_be_bytes w64 c.args.piece) at 0 ≢ 0 = λ none. c.if-byte-eq0.false (byte ∙ none) in
          let same = sym byte ∙ c.if-byte-other.false ∙ there in
          let more = still_within text bytes is c.args.piece first at c.bytes-test.true inside some same in
          let on = goes_on text bytes is c.args.piece first at c.bytes-test.true inside some same in
          let all = (c.bytes.invariant.1 text is first).1 in
          (omega (arith, more), omega (arith, on, all)),
    )
