use Rattle.std.proofs.Common.{◌*◌, ◌/◌, arith}
use Rattle.judy_sums.proofs.GroupLemmas.{first_le, first_parts}
use Rattle.judy_sums.proofs.groups.sum_before.Goals as goal

pub sum-requires : goal.sum-requires
sum-requires c =
    let many = c.requires.are.many in
    let within = c.requires.within in
    let before = c.requires.are.sums (c.args.at / 64) (omega arith) in
    let least = first_le c.args.numbers.now (64 * (c.args.at / 64)) c.args.at (omega arith) in
    let fits = c.requires.fits in
    omega arith

pub sum-requires-2 : goal.sum-requires-2
sum-requires-2 c =
    let parts = first_parts c.args.numbers.now (64 * (c.args.at / 64)) c.args.at (omega arith) in
    let fits = c.requires.fits in
    omega arith

pub overflow_add-result : goal.overflow_add-result
overflow_add-result c =
    let many = c.requires.are.many in
    let within = c.requires.within in
    let before = c.requires.are.sums (c.args.at / 64) (omega arith) in
    let parts = first_parts c.args.numbers.now (64 * (c.args.at / 64)) c.args.at (omega arith) in
    let fits = c.requires.fits in
    let groups = c.sum.ensures in
    let rest = c.sum-2.ensures in
    omega arith

pub returns : goal.returns
returns c =
    let many = c.requires.are.many in
    let within = c.requires.within in
    let before = c.requires.are.sums (c.args.at / 64) (omega arith) in
    let parts = first_parts c.args.numbers.now (64 * (c.args.at / 64)) c.args.at (omega arith) in
    let groups = c.sum.ensures in
    let rest = c.sum-2.ensures in
    omega arith
