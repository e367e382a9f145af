use Rattle.std.proofs.Common.{rules}
use Rattle.judy_pipe.proofs.mem_sink.MemSink.bytes.Goals as goal

pub returns-clause-taken : goal.returns-clause-taken
returns-clause-taken g c = search rules
