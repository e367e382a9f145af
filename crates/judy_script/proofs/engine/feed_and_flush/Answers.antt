use Rattle.std.specs.Prelude.{Result, Ok, Err, OnErr}
use Rattle.judy_script.proofs.engine.feed_and_flush.Goals as goal

-- What holds at any end holds at an error.
at_error : {A E : Type 0} (P : Type 0) → P → (result : Result A E) → OnErr result P
at_error P holds (Ok value) = tt
at_error P holds (Err error) = holds

-- where the answers can't be handed on, the last line that ended is the one whose answer was being written
pub returns-clause-err : goal.returns-clause-err
returns-clause-err g c = at_error _ (λ first fed before so_far. rw c.flush.ensures.taken (c.in_ok-ended.ensures.last c.if-not-ended.false first fed before so_far)) c.flush.result
