-- How a run ends whose script a reader gives and whose answers a writer takes, and what each end leaves.
-- (This project's own.)
use Rattle.std.specs.Prelude.{◌≡◌, ℕ, ◌<◌, ◌≤◌, ◌⊎◌, IsTrue, List, [], ◌++◌, length, take}
use Rattle.judy_model.specs.LineLists.{are_whole_lines, whole_lines}
use Rattle.judy_model.specs.Stores.{Store}
use Rattle.judy_model.specs.Runs.{Run, CutOff}

-- What ends a run before the end of its script.
pub data Fault : Type 0 where
  read : Fault
  write : Fault
  too_long : Fault

-- The store at first, how many bytes the script may have, the bytes that the reader gave, that it gave its end
-- too, the output, and the store at last.
module _ (before : Store) (max_bytes : ℕ) (given : List ℕ) (AtEnd : Type 0) (output : List ℕ) (after : Store) where
  -- The reader came to its end within so many bytes, and they were run.
  pub record RanToEnd : Type 0 where
    pub fits : length given ≤ max_bytes
    pub at_end : AtEnd
    pub ran : Run before given output after

  -- The reader failed within so many bytes: the lines of which an LF came were run.
  pub record CutAtRead : Type 0 where
    pub fits : length given ≤ max_bytes
    pub ran : Run before (whole_lines given) output after

  -- The writer failed at a line of the first so many bytes, which its LF or the reader's end closed: the run was
  -- cut off in its answer.
  pub record CutAtWrite : Type 0 where
    pub closed : List ℕ
    pub later : List ℕ
    pub split : given ≡ closed ++ later
    pub fits : length closed ≤ max_bytes
    pub line_end : IsTrue (are_whole_lines closed) ⊎ ((later ≡ []) × AtEnd)
    pub ran : CutOff before closed output after

  -- The reader gave more bytes: the lines whose LF stands in the first so many were run.
  pub record CutAtMost : Type 0 where
    pub exceeds : max_bytes < length given
    pub ran : Run before (whole_lines (take max_bytes given)) output after

  -- What a fault leaves.
  abbrev pub LeftBy : Fault → Type 0
  LeftBy read = CutAtRead
  LeftBy write = CutAtWrite
  LeftBy too_long = CutAtMost
