-- The lines of a script. (This project's own.)
use Rattle.std.specs.Prelude.{ℕ, ◌-◌, Bool, true, false, ◌&&◌, ◌==◌, nat_eq, nat_lt, if◌then◌else◌, List, [], ◌∷◌, length, take}
use Rattle.std.specs.List.{ends_with}

-- A line: its bytes without the LF, and whether an LF ended it or the script did.
pub record Line : Type 0 where
  pub bytes : List ℕ
  pub ended : Bool

-- A byte put before the first line. Where there is none yet, it is the last line, which no LF ends.
abbrev pub onto_first_line : ℕ → List Line → List Line
onto_first_line byte [] = record { bytes = byte ∷ []; ended = false } ∷ []
onto_first_line byte (line ∷ lines) = record { bytes = byte ∷ line.bytes; ended = line.ended } ∷ lines

-- A script is split at each LF (10). What stands after the last LF is a line if it isn't empty.
abbrev pub lines_of : List ℕ → List Line
lines_of [] = []
lines_of (byte ∷ script) =
    if byte == 10 then record { bytes = []; ended = true } ∷ lines_of script
    else onto_first_line byte (lines_of script)

-- A line with more than 4,096 bytes is too long; a CR before the LF counts.
abbrev pub is_too_long : Line → Bool
is_too_long line = nat_lt 4096 (length line.bytes)

-- What is cut into tokens: the line's bytes without a CR (13) that stands just before the LF. A CR at the
-- end of a line that no LF ends is kept as an ordinary byte.
abbrev pub text_of : Line → List ℕ
text_of line =
    if line.ended && ends_with nat_eq line.bytes (13 ∷ []) then take (length line.bytes - 1) line.bytes
    else line.bytes
