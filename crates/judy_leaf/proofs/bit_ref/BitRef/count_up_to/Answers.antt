use Rattle.std.proofs.Common.{◌+◌, ap, sym, ◌∙◌, arith}
use Rattle.judy_bits.specs.ByteSets as set
use Rattle.judy_leaf.specs.KeyLists.{keys_of}
use Rattle.judy_leaf.proofs.BitLists.{bit_rank, bit_rank_above}
use Rattle.judy_leaf.proofs.Nearest.{up_to-rank}
use Rattle.judy_leaf.proofs.bit_ref.BitRef.count_up_to.Goals as goal

pub returns-then-number-lt255-clause-within : goal.returns-then-number-lt255-clause-within
returns-then-number-lt255-clause-within g c =
    bit_rank c.args.self.now.pairs c.rank.result (c.args.number + 1) (c.rank.ensures ∙ ap (λ keys. set.rank keys (c.args.number + 1)) c.bits-bits.ensures.value)

pub returns-else-number-lt255-clause-value : goal.returns-else-number-lt255-clause-value
returns-else-number-lt255-clause-value g c =
    let above = c.if-number-lt255.false in
    c.len.ensures.count ∙ bit_rank_above c.args.self.now.pairs (c.args.number + 1) c.len.ensures.is_set (omega arith) ∙ sym (up_to-rank (keys_of c.args.self.now.pairs) c.args.number)
