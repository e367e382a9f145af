-- `KeyedArray::store`: whether the key was there is told by the number of keys before and after.
use Rattle.std.proofs.Common.{◌≡◌, sym, ap, ◌∙◌}
use Rattle.std.specs.Prelude.{is_ok}
use Rattle.std.specs.FinMap.{len}
use Rattle.judy_sl.specs.Lends.{with_value}
use Rattle.judy_c.proofs.Storing as storing
use Rattle.judy_c.proofs.arrays.KeyedArray.store.Goals as goal

pub returns-then-there : goal.returns-then-there
returns-then-there g c =
    let seen = g.Self.KeyedArray.seen in let old = seen c.args.self.now in let after = seen (c.put_in.follows.lender c.args.value) in let made = c.in_ok-slot.ensures.made in
    let wrote : after ≡ with_value old c.args.key.now c.args.value = c.put_in.follows.holds c.args.value (ap is_ok c.in_ok-slot.was) in
    let as_many : len after.map ≡ len old.map = sym c.key_count.ensures ∙ c.if-there.true ∙ c.key_count-count.ensures in
    (made.0, made.1, storing.held old c.args.key.now c.args.value _ wrote as_many c.in_ok-slot.slot.now made.2, wrote)

pub returns-else-there : goal.returns-else-there
returns-else-there g c =
    let seen = g.Self.KeyedArray.seen in let old = seen c.args.self.now in let after = seen (c.put_in.follows.lender c.args.value) in let made = c.in_ok-slot.ensures.made in
    let wrote : after ≡ with_value old c.args.key.now c.args.value = c.put_in.follows.holds c.args.value (ap is_ok c.in_ok-slot.was) in
    let more : (len after.map ≡ len old.map) → ⊥ = λ e. c.if-there.false (c.key_count.ensures ∙ e ∙ sym c.key_count-count.ensures) in
    (made.0, made.1, storing.absent old c.args.key.now c.args.value _ wrote more, wrote)
