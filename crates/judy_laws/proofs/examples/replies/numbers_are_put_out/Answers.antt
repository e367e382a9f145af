use Rattle.std.proofs.Common.{refl}
use Rattle.std.specs.Fmt.{digits}
use Rattle.judy_laws.proofs.examples.replies.numbers_are_put_out.Goals as goal

pub returns : goal.returns
unfolding digits
returns c = record { seven = refl; ten = refl; greatest = refl; number = refl; entry = refl; string_entry = refl; freed = refl }
