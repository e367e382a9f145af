-- `Handle::ask`: what the handle holds is asked.
use Rattle.std.proofs.Common.{subst, unwrap_or}
use Rattle.std.specs.Fn.{FnOnceReturnsAt}
use Rattle.judy_c.specs.declared.held.Held.{Held}
use Rattle.judy_c.proofs.handles.Handle.ask.Goals as goal

pub returns-clause-answer : goal.returns-clause-answer
returns-clause-answer g c =
    subst (λ (held : Held g.row.Self-Array.Denot). FnOnceReturnsAt g.F.FnOnce c.args.question (unwrap_or held.array g.Self.Array.HeldArray.without_keys) c.ask.result)
    c.held.ensures.value c.ask.ensures.answer
