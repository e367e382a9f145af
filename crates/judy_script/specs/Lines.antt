-- The text of an answer, which is lent in one of two forms.
use Rattle.std.specs.Prelude.{ℕ, ◌≤◌, List, take}
use Rattle.judy_pipe.specs.declared.sink.TheConstants.{SHORT_LEN}
use Rattle.judy_script.specs.declared.text.Line.{Line}
use Rattle.judy_script.specs.declared.text.Line.TheVariants.{Short, Long}

-- Its bytes.
abbrev pub bytes_of : Line → List ℕ
bytes_of (Short room count) = take count room.now
bytes_of (Long bytes) = bytes.now

-- A short one has no more bytes than its room.
abbrev pub IsWithin : Line → Type 0
IsWithin (Short room count) = count ≤ SHORT_LEN
IsWithin (Long bytes) = Unit {0}
