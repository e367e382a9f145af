use Rattle.std.proofs.Common.{length, sym, ap, subst, refl, arith}
use Rattle.std.proofs.lemmas.List.{with_items_is}
use Rattle.std.specs.Vec.{with_items}
use Rattle.judy_records.specs.declared.turns.Turns.TheInside.{Inside}
use Rattle.judy_records.specs.Kinds.{AreAlike}
use Rattle.judy_records.specs.InTurns.{AreTurned, AreExchanged, AreTurns, kinds_of}
use Rattle.judy_records.proofs.TurnOrders.{turns-alike}
use Rattle.judy_records.proofs.turns.Turns.sort.Goals as goal

pub returns : goal.returns
returns c =
    let before = c.self.inside in
    let value = ap length c.deref_mut.ensures.value in
    let kept = c.sort_in.auto.row in
    let is = with_items_is before.row c.sort_in.new.row (omega (arith, kept, value, before.row.ok)) in
    let after : Inside = record { row = with_items before.row c.sort_in.new.row; full = before.full; standing = before.standing } in
    let long = ap length is in
    let standings = c.self.invariant.standings in
    let now : AreTurns after = record {
      row = subst AreTurned (sym is) c.sort_in.ensures.turned;
      fulls = c.self.invariant.fulls;
      standings = omega (arith, standings, long, kept, value);
    } in
    let exchanged = subst (λ row. AreExchanged before.full before.standing row c.sort_in.new.row) c.deref_mut.ensures.value c.sort_in.ensures.exchanged in
    subst (λ seen. AreAlike seen (kinds_of after)) c.self.view_is
    (turns-alike before after c.self.invariant now refl refl (subst (λ row. AreExchanged before.full before.standing before.row.items row) (sym is) exchanged))
