use Rattle.std.proofs.Common.{ℕ, suc, [], get_or, subst, arith, ◌≡◌}
use Rattle.judy_sums.specs.Chunks.{BeginsAbove}
use Rattle.judy_sums.proofs.ChunkLemmas.{belongs}
use Rattle.judy_sums.proofs.chunks.chunk_of.Goals as goal

pub returns : goal.returns
returns c =
    let now = c.search in
    let met : now.high ≡ suc now.low = omega arith in
    belongs c.args.chunks.now c.args.word now.low c.requires.are (omega arith) now.invariant.by (subst (λ (end : ℕ). BeginsAbove (get_or c.args.chunks.now end []) c.args.word) met now.invariant.above)
