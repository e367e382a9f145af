-- How far a run has come when a part of its script was fed to it.
use Rattle.std.specs.Prelude.{◌≡◌, ℕ, List, ◌++◌, IsTrue, Option, flat_map}
use Rattle.judy_model.specs.Lines.{Line, lines_of}
use Rattle.judy_model.specs.LineLists.{are_whole_lines}
use Rattle.judy_model.specs.Stores.{Store}
use Rattle.judy_model.specs.Replies.{Reply, output_of}
use Rattle.judy_model.specs.Steps.{Step}
use Rattle.judy_model.specs.Runs.{Steps, Run, CutOff}
use Rattle.judy_pipe.specs.Pipe.{grown, GrewByFront}
use Rattle.judy_script.specs.declared.line.LineBuffer.{LineBuffer}
use Rattle.judy_script.specs.LineBuffers.{Holds}
use Rattle.judy_script.specs.Cuts.{is_without}
use Rattle.judy_script.specs.RunEnds.{Since}

-- The bytes fed are whole lines and a line that goes on. The lines are answered one by one, and the buffer
-- holds what came of the line that goes on.
pub record Fed (first : Store) (fed : List ℕ) (before : Option (List ℕ)) (buffer : LineBuffer) (taken : Option (List ℕ)) (now : Store) : Type 0 where
  pub front : List ℕ
  pub rest : List ℕ
  pub split : fed ≡ front ++ rest
  pub ended : IsTrue (are_whole_lines front)
  pub goes_on : IsTrue (is_without 10 rest)
  pub holds : Holds buffer rest
  pub replies : List Reply
  pub steps : Steps first (lines_of front) replies now
  pub written : taken ≡ grown before (flat_map output_of replies)

-- A line was executed and its reply written whole.
pub record Served (before : Store) (line : Line) (taken_before taken_after : Option (List ℕ)) (after : Store) : Type 0 where
  pub reply : Reply
  pub step : Step before line reply after
  pub written : taken_after ≡ grown taken_before (output_of reply)

-- The same, where the writer failed: a front of the reply was written.
pub record ServedInPart (before : Store) (line : Line) (taken_before taken_after : Option (List ℕ)) (after : Store) : Type 0 where
  pub reply : Reply
  pub step : Step before line reply after
  pub written : GrewByFront taken_before (output_of reply) taken_after

-- What was put out since a time is the output of a run.
abbrev pub Ran : Store → List ℕ → Option (List ℕ) → Option (List ℕ) → Store → Type 0
Ran before script taken_before taken_after after = Since taken_before taken_after (λ output. Run before script output after)

-- It is that of a run that a failed writer cut off.
abbrev pub RanInPart : Store → List ℕ → Option (List ℕ) → Option (List ℕ) → Store → Type 0
RanInPart before script taken_before taken_after after = Since taken_before taken_after (λ output. CutOff before script output after)

-- The same, at a line that an LF ended: among the bytes fed there is a front of whole lines that has it.
abbrev pub RanInWholeLines : Store → List ℕ → Option (List ℕ) → Option (List ℕ) → Store → Type 0
RanInWholeLines before fed taken_before taken_after after =
    (closed : List ℕ) × (later : List ℕ) × (fed ≡ closed ++ later) × IsTrue (are_whole_lines closed) × RanInPart before closed taken_before taken_after after
