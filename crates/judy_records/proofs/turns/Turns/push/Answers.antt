use Rattle.std.proofs.Common.{◌≡◌, ◌<◌, ◌≤◌, ◌+◌, ◌∷◌, ◌++◌, [], ℕ, length, sym, ap, subst, refl, ◌∙◌, arith}
use Rattle.judy_records.specs.declared.turns.Turns.TheInside.{Inside}
use Rattle.judy_records.specs.Kinds.{IsLonger}
use Rattle.judy_records.specs.InTurns.{kinds_of, AreTurned}
use Rattle.judy_records.proofs.TurnLemmas.{all-full, longer-are, longer-long, turns-longer}
use Rattle.judy_records.proofs.turns.Turns.push.Goals as goal

pub overflow_add-self : goal.overflow_add-self
overflow_add-self c =
    let within = c.self.invariant.standings in
    let fulls = c.self.invariant.fulls in
    omega (arith, within, fulls, c.self.inside.row.ok, c.self.inside.row.small)

pub overflow_add-self-2 : goal.overflow_add-self-2
overflow_add-self-2 c =
    let within = c.self.invariant.standings in
    omega (arith, within, c.self.inside.row.ok, c.self.inside.row.small)

pub invariant_of-self-2 : goal.invariant_of-self-2
invariant_of-self-2 c =
    let e : c.len-page.result ≡ length c.self.inside.row.items = omega (arith, c.len-page.ensures, c.self.inside.row.ok) in
    let is = c.push_reserved.ensures.items ∙ (λ i. c.reserve_exact.ensures.items i ++ record { page = e i; turn = e i } ∷ []) in
    let long = ap length is ∙ longer-long c.self.inside.row.items c.self.invariant.row in
    let within = c.self.invariant.standings in
    let fulls = c.self.invariant.fulls in
    record { row = subst AreTurned (sym is) (longer-are c.self.inside.row.items c.self.invariant.row); fulls = omega (arith, fulls); standings = omega (arith, long, within) }

pub returns-clause-pushed : goal.returns-clause-pushed
returns-clause-pushed c =
    let e : c.len-page.result ≡ length c.self.inside.row.items = omega (arith, c.len-page.ensures, c.self.inside.row.ok) in
    let is = c.push_reserved.ensures.items ∙ (λ i. c.reserve_exact.ensures.items i ++ record { page = e i; turn = e i } ∷ []) in
    let all = all-full c.self.inside c.self.invariant c.self.view_is c.requires.none_roomy c.requires.none_gone in
    let after : Inside = record { row = c.push_reserved.new.self; full = c.self.inside.full + 1; standing = c.self.inside.standing + 1 } in
    subst (λ seen. IsLonger seen (kinds_of after)) c.self.view_is
    (turns-longer c.self.inside after c.self.invariant (invariant_of-self-2 c) is all.0 (omega (arith, all)))
