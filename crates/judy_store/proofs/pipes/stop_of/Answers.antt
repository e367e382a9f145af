use Rattle.std.proofs.Common.{rules}
use Rattle.judy_store.proofs.pipes.stop_of.Goals as goal

pub returns-then-eq : goal.returns-then-eq
returns-then-eq c = search rules
