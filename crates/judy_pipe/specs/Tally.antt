-- The counting rule: what a pipe's tally is after a call.
use Rattle.std.specs.Prelude.{ℕ, ◌+◌, ◌&&◌, ◌==◌, nat_lt, if◌then◌else◌, List, length, Result, Ok, Err}
use Rattle.judy_pipe.specs.declared.stop.Stop.{Stop}
use Rattle.judy_pipe.specs.declared.stop.Stop.TheVariants.{Interrupted, Failed}
use Rattle.judy_pipe.specs.declared.tally.Tally.{Tally}

-- nothing counted yet
abbrev pub new_tally : Tally
new_tally = record { failures = 0; interruptions = 0 }

-- a call that neither failed nor was interrupted ends the interruptions in a row
abbrev pub after_move : Tally → Tally
after_move t = record { failures = t.failures; interruptions = 0 }

-- a failure is counted, and ends the interruptions in a row
abbrev pub after_failure : Tally → Tally
after_failure t = record { failures = t.failures + 1; interruptions = 0 }

-- of interruptions in a row the first 999 are counted as such, and the 1,000th is a failure
abbrev pub after_interruption : Tally → Tally
after_interruption t =
    if nat_lt t.interruptions 999
    then record { failures = t.failures; interruptions = t.interruptions + 1 }
    else after_failure t

-- a call that moved no byte is counted by its reason
abbrev pub after_stop : Tally → Stop → Tally
after_stop t Interrupted = after_interruption t
after_stop t Failed = after_failure t

-- a read that gave an answer is no failure, of 0 bytes either
abbrev pub after_read : Tally → Result ℕ Stop → Tally
after_read t (Ok n) = after_move t
after_read t (Err stop) = after_stop t stop

-- a write that took 0 bytes of a piece that is not empty is a failure
abbrev pub after_write : Tally → List ℕ → Result ℕ Stop → Tally
after_write t piece (Ok n) = if nat_lt 0 (length piece) && n == 0 then after_failure t else after_move t
after_write t piece (Err stop) = after_stop t stop
