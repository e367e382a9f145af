-- `copy_key`: what stands behind the place that was written stays.
use Rattle.std.proofs.Common.{◌≡◌, ◌+◌, ◌-◌, length, ap, ◌∙◌, arith}
use Rattle.std.proofs.lemmas.Slice.{drop-put_mid}
use Rattle.judy_c.proofs.key_walks.fill.copy_key.Goals as goal

pub returns-clause-behind : goal.returns-clause-behind
returns-clause-behind c is =
    let room = c.if-bytes-place.false in let within = c.requires in
    drop-put_mid c.args.place (c.args.place + length c.args.key.now - c.args.place) c.args.bytes.now c.copy_from_slice.new.self (c.args.place + length c.args.key.now)
    (omega (arith, room, within)) within
    (ap length c.copy_from_slice.ensures.after ∙ (let e : length c.args.key.now ≡ c.args.place + length c.args.key.now - c.args.place = omega arith in e))
