use Rattle.std.proofs.Common.{ap, ◌∙◌}
use Rattle.judy_bits.specs.ByteSets.{with_byte}
use Rattle.judy_bits.proofs.MemberLemmas.{members_of-add}
use Rattle.judy_bits.proofs.bits256.Bits256.add.Goals as goal

pub returns : goal.returns
returns c = members_of-add c.self.inside.words c.args.byte c.ranges.byte.fits c.self.told ∙ ap (λ members. with_byte members c.args.byte) c.self.view_is
