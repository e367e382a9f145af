use Rattle.std.proofs.Common.{rules}
use Rattle.judy_store.proofs.store.run_store.Goals as goal

pub returns-in-Ok-clause-handed_on : goal.returns-in-Ok-clause-handed_on
returns-in-Ok-clause-handed_on g c = search rules

pub returns-in-Err : goal.returns-in-Err
returns-in-Err g c = search rules
