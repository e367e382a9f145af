-- What it is for a run to be cut off in the answer of a line, said by runs alone. (This project's own.)
use Rattle.std.specs.Prelude.{◌≡◌, ℕ, ◌⊎◌, IsTrue, List, [], ◌++◌, length}
use Rattle.judy_model.specs.Lines.{lines_of}
use Rattle.judy_model.specs.LineLists.{are_whole_lines}
use Rattle.judy_model.specs.Stores.{Store}
use Rattle.judy_model.specs.Runs.{Run}

-- The whole begins with the front.
abbrev pub Begins : List ℕ → List ℕ → Type 0
Begins front whole = (rest : List ℕ) × (whole ≡ front ++ rest)

-- A front of whole lines was run and all its answers were put out; then one line more was run, which its LF
-- or the script's end ended, and a front of its answer was put out.
pub record RanInto (before : Store) (script output : List ℕ) (after : Store) : Type 0 where
  pub front : List ℕ
  pub line : List ℕ
  pub later : List ℕ
  pub split : script ≡ front ++ (line ++ later)
  pub whole : IsTrue (are_whole_lines front)
  pub one_line : length (lines_of line) ≡ 1
  pub line_end : IsTrue (are_whole_lines line) ⊎ (later ≡ [])
  pub between : Store
  pub answers : List ℕ
  pub ran : Run before front answers between
  pub answer : List ℕ
  pub last : Run between line answer after
  pub part : List ℕ
  pub put_out : output ≡ answers ++ part
  pub is_front : Begins part answer
