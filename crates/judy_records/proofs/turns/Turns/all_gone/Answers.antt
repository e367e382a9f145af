use Rattle.std.proofs.lemmas.Bool.{eq-eqb}
use Rattle.std.proofs.lemmas.Bool.{eqb-true}
use Rattle.judy_records.proofs.TurnLemmas.{none-stands, gone-stands}
use Rattle.judy_records.proofs.turns.Turns.all_gone.Goals as goal

pub returns : goal.returns
returns c = (
  λ is. none-stands c.self.inside c.self.invariant c.self.view_is (eqb-true c.self.inside.standing 0 is),
  λ all. eq-eqb c.self.inside.standing 0 (gone-stands c.self.inside c.self.invariant c.self.view_is all),
)
