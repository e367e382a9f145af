use Rattle.std.proofs.Common.{rules}
use Rattle.judy_pipe.proofs.mem_source.MemSource.new.Goals as goal

pub returns-clause-given : goal.returns-clause-given
returns-clause-given c = search rules
