use Rattle.std.proofs.Common.{refl, arith}
use Rattle.judy_model.proofs.dump_examples.ends_at_entries.Goals as goal

pub returns-clause-second : goal.returns-clause-second
returns-clause-second c = (1, 1, (omega arith, omega arith, refl))

pub returns-clause-second_format : goal.returns-clause-second_format
returns-clause-second_format c = (0, 2, (omega arith, omega arith, refl))
