use Rattle.std.proofs.Common.{subst}
use Rattle.judy_query.specs.Turns.{IsLater}
use Rattle.judy_query.proofs.TurnFacts.{turn_some}
use Rattle.judy_query.proofs.turns.least.Goals as goal

pub entry_at-requires-clause-inside : goal.entry_at-requires-clause-inside
entry_at-requires-clause-inside g c =
    let words = g.V.Words.WORDS in
    let turn = c.in_ok-turn.turn in
    let is = subst (λ turn. IsLater words turn) c.in_ok-turn.was c.requires.turn in
    let b = turn.branch.now in
    turn_some words b.width b.skip b.bytes b.children.items b.population is.0.branch turn.place turn.base is.0.inside
