-- What a `MemSource` shows of itself, and what a read of it answers.
use Rattle.std.specs.Prelude.{ℕ, ◌-◌, min, Bool, List, length, take, Option, Some, None, Result, Ok, Err}
use Rattle.judy_pipe.specs.declared.stop.Stop.{Stop}
use Rattle.judy_pipe.specs.declared.mem_source.SourceTrouble.{SourceTrouble}
use Rattle.judy_pipe.specs.declared.mem_source.MemSource.{MemSource}
use Rattle.judy_pipe.specs.declared.tally.Tally.{Tally}
use Rattle.judy_pipe.specs.Trouble.{source_stop, source_reach, is_never}

-- the bytes that it gave so far, a front of the slice
abbrev pub source_given : MemSource → Option (List ℕ)
source_given s = Some (take s.given s.bytes.now)

-- whether its last read gave the end
abbrev pub source_ended : MemSource → Option Bool
source_ended s = Some s.ended

-- the whole slice is what it gives before the end
abbrev pub source_content : MemSource → Option (List ℕ)
source_content s = Some s.bytes.now

-- it never fails where there is no place of trouble
abbrev pub source_is_unfailing : MemSource → Bool
source_is_unfailing s = is_never s.trouble

-- its failures and its interruptions in a row
abbrev pub source_tally : MemSource → Tally
source_tally s = s.tally

-- the most bytes that one read gives
abbrev pub source_most : MemSource → ℕ
source_most s = s.most

-- where it meets trouble, as far as the trouble is not used up
abbrev pub source_trouble : MemSource → SourceTrouble
source_trouble s = s.trouble

-- how many bytes it gave so far
abbrev pub given_count : MemSource → ℕ
given_count s = s.given

-- a read that stops gives none, and any other gives so many
abbrev pub stopped_or : Option Stop → ℕ → Result ℕ Stop
stopped_or (Some stop) count = Err stop
stopped_or None count = Ok count

-- a read into a buffer of length `room` stops at the place of trouble, and else gives as many bytes as
-- fit, as are left and as one read gives, but none beyond a place that lies ahead
abbrev pub source_answer : MemSource → ℕ → Result ℕ Stop
source_answer s room =
    stopped_or (source_stop s.trouble s.given) (source_reach s.trouble s.given (min (min room s.most) (length s.bytes.now - s.given)))
