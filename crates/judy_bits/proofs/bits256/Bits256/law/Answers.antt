use Rattle.std.proofs.Common.{subst}
use Rattle.judy_bits.specs.ByteSets.{IsByteSet}
use Rattle.judy_bits.proofs.MemberLemmas.{members_of-IsByteSet}
use Rattle.judy_bits.proofs.bits256.Bits256.law.Goals as goal

pub returns : goal.returns
returns c = subst IsByteSet c.self.view_is (members_of-IsByteSet c.self.inside.words)
