use Rattle.std.proofs.Common.{rules}
use Rattle.judy_hs.proofs.hash.Fnv1aByteHash.hash.Goals as goal

pub returns : goal.returns
returns c = search rules
