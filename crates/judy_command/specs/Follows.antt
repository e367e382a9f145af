-- What the code may answer and leave, where the definitions give an outcome or a refusal.
use Rattle.std.specs.Prelude.{◌≡◌, IsTrue, Result, Ok, Err}
use Rattle.judy_model.specs.Replies.{Reply, Refusal, no_memory}
use Rattle.judy_model.specs.Commands.{Outcome}

-- The outcome, or, where it grows, that there is no memory and nothing changed; or the refusal, and nothing
-- changed.
abbrev pub Follows : {State : Type 0} → State → Result (Outcome State) Refusal → Reply → State → Type 0
Follows before (Ok outcome) (Ok answer) after = (answer ≡ outcome.answer) × (after ≡ outcome.after)
Follows before (Ok outcome) (Err refusal) after = IsTrue outcome.grows × (refusal ≡ no_memory) × (after ≡ before)
Follows before (Err first) (Ok answer) after = ⊥
Follows before (Err first) (Err refusal) after = (refusal ≡ first) × (after ≡ before)
