use Rattle.std.proofs.Common.{◌≡◌, ◌++◌, length, ap, sym, subst, ◌∙◌, arith}
use Rattle.judy_sl.proofs.lemmas.pieces.PieceBytes.{whole_bytes}
use Rattle.judy_sl.proofs.pieces.push_piece.Goals as goal

pub put_eight-requires : goal.put_eight-requires
put_eight-requires g c =
    let long = ap length (whole_bytes c.args.piece c.to_be_bytes-bytes.result c.to_be_bytes-bytes.ensures (sym c.are_eight.ensures ∙ c.if-are_eight.true)) in
    let eight = ap length c.to_be_bytes-bytes.ensures in
    omega (arith, long, eight, c.requires)

pub returns-then-are_eight : goal.returns-then-are_eight
returns-then-are_eight g c =
    let whole = whole_bytes c.args.piece c.to_be_bytes-bytes.result c.to_be_bytes-bytes.ensures (sym c.are_eight.ensures ∙ c.if-are_eight.true) in
    let eight : length c.to_be_bytes-bytes.result ≡ 8 = ap length c.to_be_bytes-bytes.ensures in
    let long = ap length whole in
    record {
      len = omega (arith, long, eight, c.put_eight.ensures.len);
      has = λ front is. subst (λ bytes. g.K.KeyWriter.has c.put_eight.new.self (front ++ bytes)) (sym whole) (c.put_eight.ensures.has front is);
      beyond = c.put_eight.ensures.beyond;
    }
