use Rattle.std.proofs.Common.{◌≤◌, length, ap, subst, arith}
use Rattle.judy_bits.specs.KeptMembers.{IsInForm}
use Rattle.judy_bits.proofs.SetLemmas.{length-with_byte-le, length-with_byte-ge}
use Rattle.judy_bits.proofs.byte_set.add_to.Goals as goal

pub returns-then-len-lt7-clause-in_form : goal.returns-then-len-lt7-clause-in_form
returns-then-len-lt7-clause-in_form c =
    let added = ap length c.add.ensures in
    let most = length-with_byte-le c.in-Linear.few c.args.byte c.len.ensures.is_set.ascending in
    let count = c.len.ensures.count in
    let less = c.if-len-lt7.true in
    omega arith

pub returns-then-len-lt127-clause-in_form : goal.returns-then-len-lt127-clause-in_form
returns-then-len-lt127-clause-in_form c =
    let form = subst IsInForm c.in-Bitmap.is c.requires in
    let some : 8 ≤ length c.in-Bitmap.bits = form.0 in
    let added = ap length c.add-then-len-lt127.ensures in
    let least = length-with_byte-ge c.in-Bitmap.bits c.args.byte c.len-in-Bitmap.ensures.is_set.ascending in
    let most = length-with_byte-le c.in-Bitmap.bits c.args.byte c.len-in-Bitmap.ensures.is_set.ascending in
    let count = c.len-in-Bitmap.ensures.count in
    let less = c.if-len-lt127.true in
    (omega arith, omega arith, c.of.ensures)

pub returns-in-Full-clause-in_form : goal.returns-in-Full-clause-in_form
returns-in-Full-clause-in_form c =
    let form : 128 ≤ length c.in-Full.bits = (subst IsInForm c.in-Full.is c.requires).0 in
    let added = ap length c.add-in-Full.ensures in
    let least = length-with_byte-ge c.in-Full.bits c.args.byte c.law.ensures.ascending in
    (omega arith, c.of-in-Full.ensures)
