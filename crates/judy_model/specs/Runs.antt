-- What a script does to a store, and what it puts out. (This project's own.)
use Rattle.std.specs.Prelude.{◌≡◌, ℕ, List, [], ◌∷◌, ◌++◌, take, flat_map}
use Rattle.judy_model.specs.Lines.{Line, lines_of}
use Rattle.judy_model.specs.Stores.{Store}
use Rattle.judy_model.specs.Replies.{Reply, output_of}
use Rattle.judy_model.specs.Steps.{Step}

-- The lines, one by one, are answered by the replies, each from the store that the line before it left.
abbrev pub Steps : Store → List Line → List Reply → Store → Type 0
Steps before [] [] after = after ≡ before
Steps before (line ∷ lines) (reply ∷ replies) after = (between : Store) × Step before line reply between × Steps between lines replies after
Steps before [] (reply ∷ replies) after = ⊥
Steps before (line ∷ lines) [] after = ⊥

-- A run of a script: its lines are answered one by one, and what is put out is their replies in a row.
abbrev pub Run : Store → List ℕ → List ℕ → Store → Type 0
Run before script output after =
    (replies : List Reply) × Steps before (lines_of script) replies after × (output ≡ flat_map output_of replies)

-- A run that a failed writer ended: the lines before one of them are answered, that line is executed, and
-- what is put out is the replies before its own and a front of its own, perhaps none or all of it.
pub record CutOff (before : Store) (script output : List ℕ) (after : Store) : Type 0 where
  pub earlier : List Line
  pub line : Line
  pub later : List Line
  pub lines : lines_of script ≡ earlier ++ line ∷ later
  pub replies : List Reply
  pub between : Store
  pub steps : Steps before earlier replies between
  pub reply : Reply
  pub step : Step between line reply after
  pub written : ℕ
  pub front : output ≡ flat_map output_of replies ++ take written (output_of reply)
