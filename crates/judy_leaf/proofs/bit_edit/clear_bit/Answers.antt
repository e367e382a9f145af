use Rattle.std.proofs.Common.{◌%◌, ◌-◌, ◌*◌, ◌/◌, ◌^◌, bit_and, get_or, set, sym, subst, ◌∙◌, arith}
use Rattle.judy_bits.specs.ByteSets as sets
use Rattle.judy_leaf.specs.BitChanges.{IsBitChange}
use Rattle.judy_leaf.proofs.BitSteps.{bit_off, bits_changed}
use Rattle.judy_leaf.proofs.bit_edit.clear_bit.Goals as goal

pub returns : goal.returns
returns c =
    let before = c.args.block.now in
    let small = c.ranges.byte.fits in
    subst (IsBitChange (λ keys. sets.without_byte keys c.args.byte) before)
    (sym (c.put.ensures ∙ (λ t. record before {
      words = set before.words (c.from-word.ensures t) (bit_and ((c.get.ensures ∙ (λ j. get_or before.words (c.from-word.ensures j) 0)) t)
          (2 ^ 64 - 1 - 1 * 2 ^ (c.args.byte % 64) % 2 ^ 64));
    })))
    (bits_changed (λ keys. sets.without_byte keys c.args.byte) before (c.args.byte / 64) (bit_and (get_or before.words (c.args.byte / 64) 0)
    (2 ^ 64 - 1 - 1 * 2 ^ (c.args.byte % 64) % 2 ^ 64)) (omega arith) (bit_off before.words c.args.byte c.requires small))
