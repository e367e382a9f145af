-- What a line does to a store. (This project's own script.)
use Rattle.std.specs.Prelude.{◌≡◌, ℕ, Bool, false, ◌⊎◌, IsTrue, nat_eq, if◌then◌else◌, List, [], ◌∷◌, ok_or, Result, Ok, Err}
use Rattle.std.specs.List.{starts_with}
use Rattle.judy_model.specs.Lines.{Line, is_too_long, text_of}
use Rattle.judy_model.specs.Tokens.{tokens_of}
use Rattle.judy_model.specs.Stores.{Store}
use Rattle.judy_model.specs.Replies.{Reply, silent, Refusal, unknown_command, line_too_long, no_memory}
use Rattle.judy_model.specs.CommandWords.{command_named}
use Rattle.judy_model.specs.Commands.{Outcome, ◌>>=◌, unchanged, carried_out}

-- What a command does that is named by its word.
abbrev pub carried_out_by_word : Store → List ℕ → List (List ℕ) → Result (Outcome Store) Refusal
carried_out_by_word store word arguments = do
  command ← ok_or (command_named word) unknown_command
  carried_out store command arguments

-- A line without tokens, or whose first token begins with `;` (59), has no answer and changes nothing.
-- The first token of every other line is its command, the others are the command's arguments.
abbrev pub outcome_of_tokens : Store → List (List ℕ) → Result (Outcome Store) Refusal
outcome_of_tokens store [] = Ok (unchanged store silent)
outcome_of_tokens store (word ∷ arguments) =
    if starts_with nat_eq word (59 ∷ []) then Ok (unchanged store silent) else carried_out_by_word store word arguments

-- What a line does, or why it is refused. That a line is too long comes before all else, blank lines and
-- comments included.
abbrev pub outcome_of : Store → Line → Result (Outcome Store) Refusal
outcome_of store line = if is_too_long line then Err line_too_long else outcome_of_tokens store (tokens_of (text_of line))

-- What an outcome is replied, and the store after it: a refused line leaves the store as it was.
abbrev pub settled : Store → Result (Outcome Store) Refusal → Reply × Store
settled store (Ok outcome) = (Ok outcome.answer, outcome.after)
settled store (Err refusal) = (Err refusal, store)

-- The reply of a line and the store after it, with memory for all.
abbrev pub step : Store → Line → Reply × Store
step store line = settled store (outcome_of store line)

-- Whether an outcome adds a key or an array; a refusal doesn't.
abbrev pub outcome_grows : Result (Outcome Store) Refusal → Bool
outcome_grows (Ok outcome) = outcome.grows
outcome_grows (Err refusal) = false

-- Whether a line adds a key or an array, where there is memory.
abbrev pub grows : Store → Line → Bool
grows store line = outcome_grows (outcome_of store line)

-- What a line may be answered, memory being short at times: what `step` gives; or, where the line grows,
-- that there is no memory, and then the store is as it was.
abbrev pub Step : Store → Line → Reply → Store → Type 0
Step before line reply after =
    ((reply, after) ≡ step before line) ⊎ (IsTrue (grows before line) × (reply ≡ Err no_memory) × (after ≡ before))
