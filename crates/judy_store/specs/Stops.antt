-- How an error of the operating system stops a call of a pipe.
use Rattle.std.specs.declared.io.ErrorKind.{ErrorKind}
use Rattle.std.specs.declared.io.ErrorKind.TheVariants as kind
use Rattle.judy_pipe.specs.declared.stop.Stop.{Stop}
use Rattle.judy_pipe.specs.declared.stop.Stop.TheVariants.{Interrupted, Failed}

-- An interruption is one, and every other error is a failure.
abbrev pub stop_of_kind : ErrorKind → Stop
stop_of_kind kind.Interrupted = Interrupted
stop_of_kind _ = Failed
