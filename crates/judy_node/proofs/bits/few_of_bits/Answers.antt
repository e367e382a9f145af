use Rattle.std.proofs.Common.{◌^◌, length, sym, ap, ◌∙◌, subst, arith}
use Rattle.judy_leaf.specs.KeyLists.{low_pairs}
use Rattle.judy_node.specs.Trees.{IsMap}
use Rattle.judy_node.proofs.BitFacts.{length-zeroed, zeroed_map}
use Rattle.judy_node.proofs.bits.few_of_bits.Goals as goal

pub child_of_sorted-requires : goal.child_of_sorted-requires
child_of_sorted-requires g c =
    let none = c.requires.none in
    let some = c.requires.some in
    let long = ap length c.write_bits.ensures ∙ length-zeroed c.args.bits.now in
    let map = subst (λ pairs. IsMap g.V.Words.WORDS 0 (256 ^ 1) (low_pairs (256 ^ 1) pairs)) (sym c.write_bits.ensures) (zeroed_map g.V.Words.WORDS c.args.bits.now c.len.ensures.is_set) in
    (omega arith, (omega arith, ((omega arith, omega arith), (omega arith, map))))
