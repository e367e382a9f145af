use Rattle.std.proofs.Common.{rules}
use Rattle.judy_pipe.proofs.mem_sink.MemSink.take_from.Goals as goal

pub returns-clause-taken : goal.returns-clause-taken
returns-clause-taken g c = search rules
