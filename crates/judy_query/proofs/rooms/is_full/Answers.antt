use Rattle.std.proofs.Common.{◌^◌, ◌≤◌, ap, arith}
use Rattle.std.proofs.Math.Nat.{pow-le-pow_right}
use Rattle.judy_query.proofs.rooms.is_full.Goals as goal

pub moved_up-requires-clause-within : goal.moved_up-requires-clause-within
moved_up-requires-clause-within g c =
    let most : 256 ^ c.args.width ≤ 256 ^ 7 = pow-le-pow_right {n = 256} (omega arith) c.requires in
    let same = ap (λ w. 256 ^ w) c.from.ensures in
    omega arith
