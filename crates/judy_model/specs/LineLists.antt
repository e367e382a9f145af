-- What it is for lines to be those of a script: the relations that the laws of lines speak of.
use Rattle.std.specs.Prelude.{ℕ, Bool, true, not, ◌&&◌, ◌||◌, ◌==◌, nat_lt, if◌then◌else◌, List, [], ◌∷◌, ◌++◌, length, filter, flat_map}
use Rattle.std.specs.List.{list_all}
use Rattle.judy_model.specs.Lines.{Line, lines_of}

-- The bytes of a line with the LF that ended it, if one did.
abbrev pub whole_line : Line → List ℕ
whole_line line = line.bytes ++ (if line.ended then 10 ∷ [] else [])

-- The lines in a row.
abbrev pub script_of : List Line → List ℕ
script_of = flat_map whole_line

-- Whether an LF ended each line of a script.
abbrev pub are_whole_lines : List ℕ → Bool
are_whole_lines script = list_all (λ line. line.ended) (lines_of script)

-- A script up to and with its last LF: the lines that an LF ended.
abbrev pub whole_lines : List ℕ → List ℕ
whole_lines script = script_of (filter (λ line. line.ended) (lines_of script))

-- No line holds an LF; only the last may be one that no LF ended, and then it isn't empty.
abbrev pub are_lines : List Line → Bool
are_lines [] = true
are_lines (line ∷ lines) =
    list_all (λ byte. not (byte == 10)) line.bytes && (line.ended || nat_lt (length lines) 1 && nat_lt 0 (length line.bytes)) && are_lines lines
