use Rattle.std.proofs.Common.{◌≡◌, ◌%◌, true, arith, sym, refl, subst, is_some}
use Rattle.judy_node.specs.Kinds.{tree_of, IsLevel}
use Rattle.judy_node.specs.Slots.{value_of}
use Rattle.judy_node.proofs.SeatFacts.{bit-seat}
use Rattle.judy_node.proofs.PresentFacts.{leaf-there, bit-there}
use Rattle.judy_node.proofs.child.KindOf.seat_of.Goals as goal

pub place_in_bits-requires-clause-present : goal.place_in_bits-requires-clause-present
place_in_bits-requires-clause-present g c =
    let some = subst (λ kind. is_some (value_of c.args.key (tree_of g.V.Words.WORDS kind).pairs) ≡ true) c.in-Bit.is c.requires.present in
    (bit-there g.V.Words.WORDS c.in-Bit.field-0 c.args.key c.in-Bit.block some).1

pub overflow_add-result : goal.overflow_add-result
overflow_add-result g c =
    let seat = bit-seat g.V.Words.WORDS (c.args.key % 256) c.place_in_bits.result c.in-Bit.block (sym c.place_in_bits.ensures) in
    let small = seat.1 in
    omega arith

pub returns-in-Leaf : goal.returns-in-Leaf
returns-in-Leaf g c =
    let words = g.V.Words.WORDS in
    let level = subst (IsLevel words) c.in-Leaf.is c.requires.level in
    let some = subst (λ kind. is_some (value_of c.args.key (tree_of words kind).pairs) ≡ true) c.in-Leaf.is c.requires.present in
    rw (c.in-Leaf.is, c.rank-at.ensures.value, c.new.ensures) (leaf-there words c.in-Leaf.count c.args.key c.in-Leaf.block level some)

pub returns-in-Bit : goal.returns-in-Bit
returns-in-Bit g c =
    let words = g.V.Words.WORDS in
    let some = subst (λ kind. is_some (value_of c.args.key (tree_of words kind).pairs) ≡ true) c.in-Bit.is c.requires.present in
    let seat = bit-seat words (c.args.key % 256) c.place_in_bits.result c.in-Bit.block (sym c.place_in_bits.ensures) in
    rw c.in-Bit.is (c.place_in_bits.result, c.args.key % 256, refl, (bit-there words c.in-Bit.field-0 c.args.key c.in-Bit.block some).0, seat.0)
