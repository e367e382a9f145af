use Rattle.std.proofs.Common.{◌≡◌, ◌≤◌, ◌<◌, ◌-◌, ◌++◌, ◌∷◌, [], length, get_or, Option, ap, subst, refl, ◌∙◌, arith}
use Rattle.std.specs.Option.{option_to_list}
use Rattle.std.proofs.lemmas.List.{get_or_read}
use Rattle.judy_records.specs.declared.turns.Turn.{Turn}
use Rattle.judy_records.specs.declared.turns.Turns.TheInside.{Inside}
use Rattle.judy_records.specs.Kinds.{IsShorter}
use Rattle.judy_records.specs.InTurns.{no_turn, turn_of, kinds_of}
use Rattle.judy_records.proofs.TurnOrders.{exchanged-within, rest-long, rest-are, turns-shorter}
use Rattle.judy_records.proofs.turns.Turns.pop.Goals as goal

-- the row with the last page at the last turn, and that page
is-last : (c : goal.After-pop) → c.exchange.new.row.items ≡ c.pop.new.self.items ++ get_or c.exchange.new.row.items (c.exchange.new.row.len - 1) no_turn ∷ []
is-last c =
    let long = c.exchange.ensures.long in
    let len = c.len.ensures in
    let last = c.in-Some.ensures in
    c.pop.ensures.items
    ∙ ap (λ (found : Option Turn). c.pop.new.self.items ++ option_to_list found) (c.pop.ensures.value no_turn (omega (arith, long, last, len, c.exchange.new.row.ok, c.self.inside.row.ok)))

here : (c : goal.After-pop) → c.in-Some.last ≡ length c.pop.new.self.items
here c =
    let long = c.exchange.ensures.long in
    let more = rest-long c.exchange.new.row.items c.pop.new.self.items (get_or c.exchange.new.row.items (c.exchange.new.row.len - 1) no_turn) (is-last c) in
    let len = c.len.ensures in
    let last = c.in-Some.ensures in
    omega (arith, long, more, len, last, c.self.inside.row.ok)

inside : (c : goal.After-pop) → c.in-Some.last < length c.self.inside.row.items
inside c = (let len = c.len.ensures in let last = c.in-Some.ensures in omega (arith, len, last, c.self.inside.row.ok))

behind : (c : goal.After-pop) → c.self.inside.standing ≤ turn_of c.self.inside.row.items c.in-Some.last
behind c =
    let turn = ap (λ (t : Turn). t.turn) (get_or_read c.self.inside.row.items c.in-Some.last c.index.result.now (inside c) c.index.ensures no_turn) in
    omega (arith, turn, c.if-index-self.false)

pub invariant_of-self : goal.invariant_of-self
invariant_of-self c =
    let last = get_or c.exchange.new.row.items (c.exchange.new.row.len - 1) no_turn in
    let own = subst (λ n. turn_of c.exchange.new.row.items n ≡ n) (here c) c.exchange.ensures.here in
    let at = here c in
    let past = behind c in
    let within = c.self.invariant.row.turn_in c.in-Some.last (inside c) in
    let len = c.len.ensures in
    let less = c.in-Some.ensures in
    record {
      row = rest-are c.exchange.new.row.items c.pop.new.self.items last (is-last c) c.exchange.ensures.turned own;
      fulls = c.self.invariant.fulls;
      standings = omega (arith, at, past, within, len, less, c.self.inside.row.ok);
    }

pub returns-clause-popped : goal.returns-clause-popped
returns-clause-popped c = λ _.
    let before = c.self.inside in
    let row = before.row.items in
    let turn = c.in-Some.last in
    let within = before.standing in
    let last = get_or c.exchange.new.row.items (c.exchange.new.row.len - 1) no_turn in
    let after : Inside = record { row = c.pop.new.self; full = before.full; standing = before.standing } in
    let past = behind c in
    let there = inside c in
    let most = c.self.invariant.row.turn_in turn there in
    let len = c.len.ensures in
    let less = c.in-Some.ensures in
    let exchanged = exchanged-within row c.exchange.new.row.items c.self.invariant.row c.exchange.ensures.long turn turn there c.exchange.ensures.here c.exchange.ensures.other
    c.exchange.ensures.elsewhere within (length row) (omega (arith, past, most, len, less, before.row.ok)) there past most in
    subst (λ seen. IsShorter seen (kinds_of after)) c.self.view_is
    (turns-shorter before after c.self.invariant c.exchange.new.row.items exchanged last (is-last c) (invariant_of-self c) refl refl
    (subst (λ n. within ≤ turn_of row n) (here c) past))
