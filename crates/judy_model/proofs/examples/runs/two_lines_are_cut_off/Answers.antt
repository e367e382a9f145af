use Rattle.std.proofs.Common.{ℕ, [], ◌∷◌, ◌++◌, take, codes, false, true, Ok, inl, refl}
use Rattle.judy_model.specs.Replies.{done}
use Rattle.judy_model.specs.Runs.{CutOff}
use Rattle.judy_model.specs.Examples.{one_array, two_arrays, two_lines}
use Rattle.judy_model.proofs.examples.runs.two_lines_are_cut_off.Goals as goal

pub returns-clause-first : goal.returns-clause-first
returns-clause-first c = record {
  earlier = [];
  line = record { bytes = codes "make a judyl 1"; ended = true };
  later = record { bytes = codes "make s judy1 2"; ended = false } ∷ [];
  lines = refl;
  replies = [];
  between = [];
  steps = refl;
  reply = Ok done;
  step = inl refl;
  written = 0;
  front = refl;
}

-- At a byte of the second answer.
in_second : (written : ℕ) → CutOff [] two_lines (codes "ok" ++ 10 ∷ take written (codes "ok" ++ 10 ∷ [])) two_arrays
in_second written = record {
  earlier = record { bytes = codes "make a judyl 1"; ended = true } ∷ [];
  line = record { bytes = codes "make s judy1 2"; ended = false };
  later = [];
  lines = refl;
  replies = Ok done ∷ [];
  between = one_array 1;
  steps = (one_array 1, inl refl, refl);
  reply = Ok done;
  step = inl refl;
  written = written;
  front = refl;
}

pub returns-clause-second : goal.returns-clause-second
returns-clause-second c = in_second 1

pub returns-clause-whole : goal.returns-clause-whole
returns-clause-whole c = in_second 3
