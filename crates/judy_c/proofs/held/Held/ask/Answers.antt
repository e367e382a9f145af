-- `Held::ask`: the array that is there is the one asked, or the one without keys is; and an array that stays leaves all as it was.
use Rattle.std.proofs.Common.{sym, ap, ◌∙◌, unwrap_or}
use Rattle.judy_c.proofs.held.Held.ask.Goals as goal

pub returns-in-Some-clause-answer : goal.returns-in-Some-clause-answer
returns-in-Some-clause-answer g c = (_, c.question.ensures, ap (λ o. unwrap_or o g.T.HeldArray.without_keys) c.in-Some.ensures.value)

pub returns-in-Some-clause-same : goal.returns-in-Some-clause-same
returns-in-Some-clause-same g c = ap (λ o. record c.args.self.now { array = o }) c.in-Some.ensures.value

pub returns-in-None-clause-answer : goal.returns-in-None-clause-answer
returns-in-None-clause-answer g c = (_, c.question-in-None.ensures, c.empty.ensures ∙ ap (λ o. unwrap_or o g.T.HeldArray.without_keys) (sym c.in-None.ensures.null))
