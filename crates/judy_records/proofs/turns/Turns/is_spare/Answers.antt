use Rattle.std.proofs.Common.{ap, sym, ◌∙◌, arith, lt-ltb, le-ltb}
use Rattle.std.proofs.lemmas.Bool.{ltb-true, false≢true}
use Rattle.std.proofs.lemmas.List.{get_or_read}
use Rattle.judy_records.specs.declared.turns.Turn.{Turn}
use Rattle.judy_records.specs.InTurns.{no_turn}
use Rattle.judy_records.proofs.TurnLemmas.{seen-inside, spare-turn, turn-spare}
use Rattle.judy_records.proofs.turns.Turns.is_spare.Goals as goal

pub returns-then-self-turn : goal.returns-then-self-turn
returns-then-self-turn c =
    let inside = seen-inside c.self.inside c.self.invariant c.self.view_is c.args.page c.requires in
    let turn = ap (λ (t : Turn). t.turn) (get_or_read c.self.inside.row.items c.args.page c.index.result.now inside c.index.ensures no_turn) in (
      λ is.
          let less = ltb-true c.index.result.now.turn c.self.inside.standing is in
          turn-spare c.self.inside c.self.invariant c.self.view_is c.args.page c.requires (omega (arith, c.if-self-turn.true, turn)) (omega (arith, less, turn)),
      λ spare.
          let there = spare-turn c.self.inside c.self.invariant c.self.view_is c.args.page c.requires spare in
          lt-ltb c.index.result.now.turn c.self.inside.standing (omega (arith, there, turn)),
    )

pub returns-else-self-turn : goal.returns-else-self-turn
returns-else-self-turn c =
    let inside = seen-inside c.self.inside c.self.invariant c.self.view_is c.args.page c.requires in
    let turn = ap (λ (t : Turn). t.turn) (get_or_read c.self.inside.row.items c.args.page c.index.result.now inside c.index.ensures no_turn) in
    let not = le-ltb c.self.inside.full c.index.result.now.turn c.if-self-turn.false in (
      λ is. absurd (false≢true (sym not ∙ is)),
      λ spare.
          let there = spare-turn c.self.inside c.self.invariant c.self.view_is c.args.page c.requires spare in
          absurd (omega (arith, there, turn, c.if-self-turn.false)),
    )
