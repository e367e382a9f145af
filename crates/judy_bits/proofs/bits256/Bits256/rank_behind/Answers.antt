use Rattle.std.proofs.Common.{◌≡◌, ◌+◌, ◌*◌, ◌/◌, ◌%◌, ◌^◌, ap, sym, ◌∙◌, slice_index, bit_and, count_ones}
use Rattle.std.proofs.lemmas.Nat.{and_mask}
use Rattle.judy_bits.specs.BitWords.{members_of}
use Rattle.judy_bits.specs.ByteSets.{rank}
use Rattle.judy_bits.proofs.FrontLemmas.{rank-front}
use Rattle.judy_bits.proofs.bits256.Bits256.rank_behind.Goals as goal

pub returns : goal.returns
returns c =
    let words = c.self.inside.words in
    let byte = c.args.byte in
    let own = slice_index words (byte / 64) in
    let front : rank (members_of words) (64 * (byte / 64)) ≡ c.args.front = ap (λ members. rank members (64 * (byte / 64))) c.self.view_is ∙ sym c.requires.front in
    let here : count_ones (bit_and own c.fewer_ones.result) ≡ count_ones (own % 2 ^ (byte % 64)) = ap count_ones (ap (bit_and own) c.fewer_ones.ensures ∙ and_mask own (byte % 64)) in
    sym (rank-front words byte c.ranges.byte.fits ∙ (λ t. front t + sym here t))
    ∙ ap (λ members. rank members byte) c.self.view_is
