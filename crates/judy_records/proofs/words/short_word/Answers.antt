use Rattle.std.proofs.Common.{◌*◌, ◌+◌, ◌-◌, ◌^◌, ◌%◌, length, ◌∙◌, arith}
use Rattle.judy_records.proofs.ChunkLemmas.{short-four}
use Rattle.judy_records.proofs.words.short_word.Goals as goal

pub returns : goal.returns
returns c =
    let bytes = c.args.bytes.now in
    (λ i. (c.from-2.ensures ∙ c.from_be_bytes-2.ensures) i * 4294967296 + (c.from.ensures ∙ c.from_be_bytes.ensures) i * 2 ^ (64 - 8 * length bytes) % 18446744073709551616 % 4294967296)
    ∙ short-four bytes c.in-Some-first_chunk.first.now c.in-Some.last.now (λ k. omega (arith, c.type_inv.bytes k)) c.in-Some.ensures.cases.0 c.requires
    c.in-Some-first_chunk.ensures.cases.same c.in-Some.ensures.cases.1.same
