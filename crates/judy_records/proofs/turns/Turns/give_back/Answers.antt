use Rattle.std.proofs.Common.{◌≡◌, ◌≢◌, ◌⊎◌, ◌<◌, ◌≤◌, ◌+◌, ◌-◌, ℕ, inl, inr, length, sym, ap, subst, refl, ◌∙◌, arith}
use Rattle.std.proofs.lemmas.Bool.{cases_lt}
use Rattle.judy_records.specs.declared.turns.Turns.TheInside.{Inside}
use Rattle.judy_records.specs.Kinds.{Kinds, full, roomy, gone, kind_of, IsMoved}
use Rattle.judy_records.specs.InTurns.{turn_of, page_at, kinds_of, AreTurns}
use Rattle.judy_records.proofs.TurnLemmas.{seen-inside, seen-kind, full-turn, roomy-turn, gone-turn, kind-full, kind-roomy, kind-gone, kind-same, turns-moved}
use Rattle.judy_records.proofs.turns.Turns.give_back.Goals as goal

pub overflow_sub-self : goal.overflow_sub-self
overflow_sub-self c =
    let f = c.self.inside.full in
    let s = c.self.inside.standing in
    let inside = seen-inside c.self.inside c.self.invariant c.self.view_is c.args.page c.requires.within in
    let kind = seen-kind c.self.inside c.self.invariant c.self.view_is c.args.page c.requires.within c.requires.is_roomy in
    let turn = roomy-turn f s (turn_of c.self.inside.row.items c.args.page) kind in
    let turn_in = c.self.invariant.row.turn_in c.args.page inside in
    let fulls = c.self.invariant.fulls in
    let within = c.self.invariant.standings in
    omega (arith, turn)

pub exchange-requires-clause-page : goal.exchange-requires-clause-page
exchange-requires-clause-page c =
    let inside = seen-inside c.self.inside c.self.invariant c.self.view_is c.args.page c.requires.within in
    omega (arith, inside)

pub exchange-requires-clause-turn : goal.exchange-requires-clause-turn
exchange-requires-clause-turn c =
    let f = c.self.inside.full in
    let s = c.self.inside.standing in
    let inside = seen-inside c.self.inside c.self.invariant c.self.view_is c.args.page c.requires.within in
    let kind = seen-kind c.self.inside c.self.invariant c.self.view_is c.args.page c.requires.within c.requires.is_roomy in
    let turn = roomy-turn f s (turn_of c.self.inside.row.items c.args.page) kind in
    let turn_in = c.self.invariant.row.turn_in c.args.page inside in
    let fulls = c.self.invariant.fulls in
    let within = c.self.invariant.standings in
    let border : c.self.inside.standing - 1 < length c.self.inside.row.items = omega (arith, turn, fulls, within) in
    omega (arith, border)

pub invariant_of-self : goal.invariant_of-self
invariant_of-self c =
    let f = c.self.inside.full in
    let s = c.self.inside.standing in
    let inside = seen-inside c.self.inside c.self.invariant c.self.view_is c.args.page c.requires.within in
    let kind = seen-kind c.self.inside c.self.invariant c.self.view_is c.args.page c.requires.within c.requires.is_roomy in
    let turn = roomy-turn f s (turn_of c.self.inside.row.items c.args.page) kind in
    let turn_in = c.self.invariant.row.turn_in c.args.page inside in
    let fulls = c.self.invariant.fulls in
    let within = c.self.invariant.standings in
    let long : length c.exchange.new.row.items ≡ length c.self.inside.row.items = c.exchange.ensures.long in
    record { row = c.exchange.ensures.turned; fulls = omega (arith, turn); standings = omega (arith, within, long) }

pub returns : goal.returns
returns c =
    let f = c.self.inside.full in
    let s = c.self.inside.standing in
    let inside = seen-inside c.self.inside c.self.invariant c.self.view_is c.args.page c.requires.within in
    let kind = seen-kind c.self.inside c.self.invariant c.self.view_is c.args.page c.requires.within c.requires.is_roomy in
    let turn = roomy-turn f s (turn_of c.self.inside.row.items c.args.page) kind in
    let turn_in = c.self.invariant.row.turn_in c.args.page inside in
    let fulls = c.self.invariant.fulls in
    let within = c.self.invariant.standings in
    let long : length c.exchange.new.row.items ≡ length c.self.inside.row.items = c.exchange.ensures.long in
    let after : Inside = record { row = c.exchange.new.row; full = c.self.inside.full; standing = c.self.inside.standing - 1 } in
    subst (λ all. IsMoved all (kinds_of after) c.args.page gone) c.self.view_is
    (turns-moved c.self.inside after c.self.invariant (invariant_of-self c) long c.args.page (c.self.inside.standing - 1) gone inside (omega (arith, turn, fulls, within))
    c.exchange.ensures.here
    c.exchange.ensures.other
    c.exchange.ensures.elsewhere
    (λ u off. kind-same f s f (s - 1) u (elim (cases_lt u f) [ inl less ↦ inl (less, less) | inr past ↦ inr (past, past) ]) (elim (cases_lt u (s - 1)) [
      | inl less ↦ inl (
        omega
            (arith, less),
        less,
      )
      | inr past ↦ inr (omega (arith, past, off, turn), past)
    ]))
    (kind-gone f (s - 1) (s - 1) (omega (arith, turn)) (omega arith))
    (kind-roomy f s (s - 1) (omega (arith, turn)) (omega (arith, turn)) ∙ sym kind))
