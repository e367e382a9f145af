use Rattle.std.proofs.Common.{ap, ◌∙◌}
use Rattle.judy_bits.specs.ByteSets as set
use Rattle.judy_leaf.proofs.BitLists.{bit_rank, bit_rank_above}
use Rattle.judy_leaf.proofs.bit_ref.BitRef.rank.Goals as goal

pub returns-then-key-lt256-clause-within : goal.returns-then-key-lt256-clause-within
returns-then-key-lt256-clause-within g c =
    bit_rank c.args.self.now.pairs c.rank.result c.args.key (c.rank.ensures ∙ ap (λ keys. set.rank keys c.args.key) c.bits-bits.ensures.value)

pub returns-else-key-lt256-clause-value : goal.returns-else-key-lt256-clause-value
returns-else-key-lt256-clause-value g c = c.len.ensures.count ∙ bit_rank_above c.args.self.now.pairs c.args.key c.bits-bits.ensures.is_set c.if-key-lt256.false
