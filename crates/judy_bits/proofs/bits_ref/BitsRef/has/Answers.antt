use Rattle.std.proofs.Common.{◌/◌, ◌%◌, ◌==◌, sym, ap, ◌∙◌, slice_index}
use Rattle.std.proofs.lemmas.Nat.Bits.{shr_and_one}
use Rattle.judy_bits.specs.ByteSets.{has}
use Rattle.judy_bits.proofs.MemberLemmas.{has-members_of}
use Rattle.judy_bits.proofs.bits_ref.BitsRef.has.Goals as goal

pub returns : goal.returns
returns c =
    ap (λ bit. bit == 1) (shr_and_one (slice_index c.self.inside.words.now (c.args.byte / 64)) (c.args.byte % 64))
    ∙ sym (has-members_of c.self.inside.words.now c.args.byte c.ranges.byte.fits)
    ∙ ap (λ members. has members c.args.byte) c.self.view_is
