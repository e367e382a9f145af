use Rattle.std.proofs.Common.{refl}
use Rattle.std.specs.Fmt.{digits}
use Rattle.std.specs.FinMap.{gets}
use Rattle.judy_model.proofs.examples.words.arrays_are_put_out_with_their_numbers_of_keys.Goals as goal

pub returns : goal.returns
unfolding digits
returns c = simp gets refl
