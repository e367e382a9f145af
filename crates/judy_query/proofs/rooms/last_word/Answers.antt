use Rattle.std.proofs.Common.{◌^◌, ◌≤◌, ap, arith}
use Rattle.std.proofs.Math.Nat.{pow-le-pow_right}
use Rattle.judy_model.proofs.lemmas.orders.ByteLemmas.{unit_pos}
use Rattle.judy_query.proofs.rooms.last_word.Goals as goal

pub moved_up-requires-clause-within : goal.moved_up-requires-clause-within
moved_up-requires-clause-within c =
    let most : 256 ^ c.args.width ≤ 256 ^ 7 = pow-le-pow_right {n = 256} (omega arith) c.requires in
    let same = ap (λ w. 256 ^ w) c.from.ensures in
    omega arith

pub overflow_sub-result : goal.overflow_sub-result
overflow_sub-result c =
    let some = unit_pos c.from.result in
    let moved = c.moved_up.ensures in
    omega arith

pub returns : goal.returns
returns c =
    let most : 256 ^ c.args.width ≤ 256 ^ 7 = pow-le-pow_right {n = 256} (omega arith) c.requires in
    let same = ap (λ w. 256 ^ w) c.from.ensures in
    let moved = c.moved_up.ensures in
    let some = unit_pos c.args.width in
    record { value = omega arith; within = omega arith }
