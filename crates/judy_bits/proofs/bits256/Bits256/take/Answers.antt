use Rattle.std.proofs.Common.{ap, ◌∙◌}
use Rattle.judy_bits.specs.ByteSets.{without_byte}
use Rattle.judy_bits.proofs.MemberLemmas.{members_of-take}
use Rattle.judy_bits.proofs.bits256.Bits256.take.Goals as goal

pub returns : goal.returns
returns c = members_of-take c.self.inside.words c.args.byte c.ranges.byte.fits c.self.told ∙ ap (λ members. without_byte members c.args.byte) c.self.view_is
