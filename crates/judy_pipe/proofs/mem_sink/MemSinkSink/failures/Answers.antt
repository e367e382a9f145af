use Rattle.std.proofs.Common.{rules}
use Rattle.judy_pipe.proofs.mem_sink.MemSinkSink.failures.Goals as goal

pub returns : goal.returns
returns g c = search rules
