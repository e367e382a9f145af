use Rattle.std.proofs.Common.{ap, ◌∙◌}
use Rattle.judy_bits.specs.ByteSets.{rank}
use Rattle.judy_bits.proofs.FewLemmas.{rank-counted}
use Rattle.judy_bits.proofs.few_bytes.FewBytes.rank.Goals as goal

pub returns : goal.returns
returns c =
    rank-counted c.self.inside.bytes c.self.inside.count c.self.invariant.0 c.self.invariant.1 c.args.byte c.loop-member.member-index c.loop-member.below
    c.ranges.byte.fits c.loop-member-test.false c.loop-member.invariant
    ∙ ap (λ members. rank members c.args.byte) c.self.view_is
