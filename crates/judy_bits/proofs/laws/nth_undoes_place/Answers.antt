use Rattle.judy_bits.proofs.SetLaws.{place-nth}
use Rattle.judy_bits.proofs.laws.nth_undoes_place.Goals as goal

pub returns : goal.returns
returns c = place-nth
