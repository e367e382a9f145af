use Rattle.std.proofs.Common.{rules}
use Rattle.judy_store.proofs.end.write_line.Goals as goal

pub returns-clause-ok : goal.returns-clause-ok
returns-clause-ok g c = search rules
