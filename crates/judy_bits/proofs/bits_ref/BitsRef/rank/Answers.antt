use Rattle.std.proofs.Common.{◌≡◌, ◌+◌, ◌/◌, ◌%◌, ◌^◌, ap, sym, ◌∙◌, slice_index, bit_and, count_ones}
use Rattle.std.proofs.lemmas.Nat.{and_mask}
use Rattle.judy_bits.specs.ByteSets.{rank}
use Rattle.judy_bits.proofs.MemberLemmas.{rank-members_of}
use Rattle.judy_bits.proofs.bits_ref.BitsRef.rank.Goals as goal

pub returns : goal.returns
returns c =
    let own = slice_index c.self.inside.words.now (c.args.byte / 64) in
    let here : count_ones (bit_and own c.low_ones.result) ≡ count_ones (own % 2 ^ (c.args.byte % 64)) = ap count_ones (ap (bit_and own) c.low_ones.ensures ∙ and_mask own (c.args.byte % 64)) in
    (λ t. c.ones_before.ensures.counted t + here t)
    ∙ sym (rank-members_of c.self.inside.words.now c.args.byte c.ranges.byte.fits)
    ∙ ap (λ members. rank members c.args.byte) c.self.view_is
