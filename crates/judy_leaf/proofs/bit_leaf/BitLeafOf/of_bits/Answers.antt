use Rattle.std.proofs.Common.{◌+◌, ◌*◌, ap, ◌∙◌, arith}
use Rattle.judy_leaf.proofs.BitSets.{set_list}
use Rattle.judy_leaf.proofs.bit_leaf.BitLeafOf.of_bits.Goals as goal

pub returns : goal.returns
returns g c =
    let count = c.len.ensures.count in
    let within = c.len.ensures.within in
    set_list g.V.Words.WORDS c.args.width c.args.bits.now c.words.result c.in_ok-block.block c.requires.none c.words.ensures c.words.type_inv.1.0.1 (omega arith)
    (ap (λ b. b.words) c.in_ok-block.ensures) (ap (λ b. b.tag) c.in_ok-block.ensures ∙ c.bit_tag-tag.ensures ∙ ap (λ n. n + 65536 * c.args.width) count)
