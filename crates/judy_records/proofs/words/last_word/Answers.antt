use Rattle.std.proofs.Common.{◌*◌, ◌^◌, ◌-◌, ◌%◌, length, ap, ◌∙◌, arith}
use Rattle.judy_records.proofs.ChunkLemmas.{last-word}
use Rattle.judy_records.proofs.words.last_word.Goals as goal

pub returns-in-Some : goal.returns-in-Some
returns-in-Some c =
    let bytes = c.args.bytes.now in
    let chunk = c.in-Some.ensures.cases in
    ap (λ n. n * 2 ^ (64 - length bytes % 8 * 8) % 18446744073709551616) c.from_be_bytes.ensures
    ∙ last-word bytes c.in-Some.last.now (λ k. omega (arith, c.type_inv.bytes k)) chunk.0 c.requires chunk.1.same
