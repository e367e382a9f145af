use Rattle.std.proofs.Common.{◌≡◌, ◌≢◌, ◌<◌, ℕ, length, sym, ap, subst, ◌∙◌, arith}
use Rattle.std.proofs.lemmas.List.{with_items_is}
use Rattle.judy_records.specs.InTurns.{turn_of, page_at, AreTurned}
use Rattle.judy_records.proofs.turns.exchange.Goals as goal

pub returns-clause-long : goal.returns-clause-long
returns-clause-long c =
    let value = ap length c.deref_mut.ensures.value in
    let kept = c.exchange_in.auto.row in
    let is = ap length (with_items_is c.args.row.now c.exchange_in.new.row (omega (arith, kept, value, c.args.row.now.ok))) in
    omega (arith, is, kept, value)

pub returns-clause-turned : goal.returns-clause-turned
returns-clause-turned c =
    let value = ap length c.deref_mut.ensures.value in
    let kept = c.exchange_in.auto.row in
    subst AreTurned (sym (with_items_is c.args.row.now c.exchange_in.new.row (omega (arith, kept, value, c.args.row.now.ok)))) c.exchange_in.ensures.turned

pub returns-clause-here : goal.returns-clause-here
returns-clause-here c =
    let value = ap length c.deref_mut.ensures.value in
    let kept = c.exchange_in.auto.row in
    ap (λ row. turn_of row c.args.page) (with_items_is c.args.row.now c.exchange_in.new.row (omega (arith, kept, value, c.args.row.now.ok))) ∙ c.exchange_in.ensures.here

pub returns-clause-other : goal.returns-clause-other
returns-clause-other c = λ off.
    let value = ap length c.deref_mut.ensures.value in
    let kept = c.exchange_in.auto.row in
    ap (λ row. turn_of row (page_at c.args.row.now.items c.args.turn)) (with_items_is c.args.row.now c.exchange_in.new.row (omega (arith, kept, value, c.args.row.now.ok)))
    ∙ subst (λ row. page_at row c.args.turn ≢ c.args.page → turn_of c.exchange_in.new.row (page_at row c.args.turn) ≡ turn_of row c.args.page) c.deref_mut.ensures.value c.exchange_in.ensures.other off

pub returns-clause-elsewhere : goal.returns-clause-elsewhere
returns-clause-elsewhere c = λ at apart away.
    let value = ap length c.deref_mut.ensures.value in
    let kept = c.exchange_in.auto.row in
    ap (λ row. turn_of row at) (with_items_is c.args.row.now c.exchange_in.new.row (omega (arith, kept, value, c.args.row.now.ok)))
    ∙ subst (λ row. (at : ℕ) → at ≢ c.args.page → at ≢ page_at row c.args.turn →
    turn_of c.exchange_in.new.row at ≡ turn_of row at) c.deref_mut.ensures.value c.exchange_in.ensures.elsewhere at apart away
