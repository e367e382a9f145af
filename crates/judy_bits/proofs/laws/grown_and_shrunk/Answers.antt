use Rattle.judy_bits.proofs.SetLaws.{without-with_byte}
use Rattle.judy_bits.proofs.laws.grown_and_shrunk.Goals as goal

pub returns : goal.returns
returns c = without-with_byte
