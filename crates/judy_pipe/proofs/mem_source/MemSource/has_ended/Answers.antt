use Rattle.std.proofs.Common.{rules}
use Rattle.judy_pipe.proofs.mem_source.MemSource.has_ended.Goals as goal

pub returns : goal.returns
returns c = search rules
