use Rattle.std.proofs.Common.{◌*◌, ◌%◌, ap, ◌∙◌, arith}
use Rattle.judy_records.proofs.ChunkLemmas.{short-one}
use Rattle.judy_records.proofs.words.byte_word.Goals as goal

pub returns : goal.returns
returns c =
    ap (λ n. n * 72057594037927936 % 18446744073709551616) (c.from.ensures ∙ c.byte_or_zero.ensures)
    ∙ short-one c.args.bytes.now c.requires (omega (arith, c.type_inv.bytes 0))
