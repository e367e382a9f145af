use Rattle.std.proofs.Common.{◌≤◌, length, ap, subst, arith}
use Rattle.judy_bits.specs.KeptMembers.{IsInForm}
use Rattle.judy_bits.proofs.SetLemmas.{length-without_byte-le, length-without_byte-ge}
use Rattle.judy_bits.proofs.byte_set.take_from.Goals as goal

pub returns-in-Linear-clause-in_form : goal.returns-in-Linear-clause-in_form
returns-in-Linear-clause-in_form c =
    let form : length c.in-Linear.few ≤ 7 = subst IsInForm c.in-Linear.is c.requires in
    let taken = ap length c.take.ensures in
    let most = length-without_byte-le c.in-Linear.few c.args.byte in
    omega arith

pub returns-then-len-gt8-clause-in_form : goal.returns-then-len-gt8-clause-in_form
returns-then-len-gt8-clause-in_form c =
    let form = subst IsInForm c.in-Bitmap.is c.requires in
    let few : length c.in-Bitmap.bits ≤ 127 = form.1 in
    let taken = ap length c.take-then-len-gt8.ensures in
    let least = length-without_byte-ge c.in-Bitmap.bits c.args.byte c.len.ensures.is_set.ascending in
    let most = length-without_byte-le c.in-Bitmap.bits c.args.byte in
    let count = c.len.ensures.count in
    let more = c.if-len-gt8.true in
    (omega arith, omega arith, c.of.ensures)

pub returns-then-len-gt128-clause-in_form : goal.returns-then-len-gt128-clause-in_form
returns-then-len-gt128-clause-in_form c =
    let taken = ap length c.take-then-len-gt128.ensures in
    let least = length-without_byte-ge c.in-Full.bits c.args.byte c.len-in-Full.ensures.is_set.ascending in
    let count = c.len-in-Full.ensures.count in
    let more = c.if-len-gt128.true in
    (omega arith, c.of-then-len-gt128.ensures)
