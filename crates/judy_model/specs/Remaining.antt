-- What remains of a run once the lines that there was no memory for are taken out of it. (This project's own.)
use Rattle.std.specs.Prelude.{ℕ, Bool, true, false, not, List, filter, map, zip, Err}
use Rattle.judy_model.specs.Lines.{Line, lines_of}
use Rattle.judy_model.specs.LineLists.{script_of}
use Rattle.judy_model.specs.Replies.{Reply, no_memory}

-- Whether a line is answered `error no-memory`.
abbrev pub wants_memory : Reply → Bool
wants_memory (Err no_memory) = true
wants_memory reply = false

-- The lines that are answered otherwise, each with its reply.
abbrev pub remaining : List Line → List Reply → List (Line × Reply)
remaining lines replies = filter (λ pair. not (wants_memory pair.1)) (zip lines replies)

-- These lines.
abbrev pub remaining_lines : List Line → List Reply → List Line
remaining_lines lines replies = map (λ pair. pair.0) (remaining lines replies)

-- These replies.
abbrev pub remaining_replies : List Line → List Reply → List Reply
remaining_replies lines replies = map (λ pair. pair.1) (remaining lines replies)

-- A script without the lines that are answered `error no-memory`.
abbrev pub remaining_script : List ℕ → List Reply → List ℕ
remaining_script script replies = script_of (remaining_lines (lines_of script) replies)
