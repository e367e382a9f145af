use Rattle.std.proofs.Common.{◌%◌, get_or, refl}
use Rattle.judy_leaf.proofs.BitsPut.{bit_next, bits_done}
use Rattle.judy_leaf.proofs.bit_edit.set_bits.Goals as goal

pub loop-at-init : goal.loop-at-init
loop-at-init c = record { capacity = refl; tag = refl; long = refl; values = refl; changed = c.requires.empty }

pub loop-at-preserved : goal.loop-at-preserved
loop-at-preserved c =
    bit_next c.args.pairs.now c.loop-at.at ((get_or c.args.pairs.now c.loop-at.at (0, 0)).0 % 256) c.args.block.now c.loop-at.block c.set_bit.new.block c.requires.list c.loop-at-test.true refl
    c.loop-at.invariant c.set_bit.ensures

pub returns : goal.returns
returns c = bits_done c.args.pairs.now c.loop-at.at c.args.block.now c.loop-at.block c.loop-at-test.false c.loop-at.invariant
