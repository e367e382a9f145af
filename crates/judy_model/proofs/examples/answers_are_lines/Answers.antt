use Rattle.std.proofs.Common.{refl}
use Rattle.std.specs.Fmt.{digits}
use Rattle.judy_model.proofs.examples.answers_are_lines.Goals as goal

pub returns : goal.returns
unfolding digits
returns c = record { silent = refl; done = refl; was = refl; yes = refl; no = refl; entry = refl; string_entry = refl; freed = refl; list = refl; number = refl; nothing = refl }
