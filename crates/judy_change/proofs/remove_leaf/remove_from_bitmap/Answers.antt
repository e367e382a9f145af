use Rattle.std.proofs.Common.{ℕ, ◌%◌, ◌<◌, Some, length, get_or, refl, sym, ap, ◌∙◌, subst}
use Rattle.judy_bits.specs.ByteSets as set
use Rattle.judy_leaf.specs.KeyLists.{KeyList, keys_of, values_of}
use Rattle.judy_leaf.specs.BitLeaves.{bit_list}
use Rattle.judy_node.specs.Kinds.{bit_tree}
use Rattle.judy_node.specs.declared.child.KindOf.TheVariants.{Bit}
use Rattle.judy_node.proofs.Leaves.{bit_map}
use Rattle.judy_change.specs.LeafTrees.{one_bitmap}
use Rattle.judy_change.proofs.LeafFacts.{bit_none, bit_there, bit_within, bit_stays, bit_gone, bit_kept}
use Rattle.judy_change.proofs.remove_leaf.remove_from_bitmap.Goals as goal

pub value_at-value-requires : goal.value_at-value-requires
value_at-value-requires g c =
    let along = c.in-Some.ensures.0 ∙ c.number.ensures.value in
    let place = ap (λ (l : KeyList). set.place (keys_of l.pairs) (c.args.key % 256)) (sym c.new.ensures) ∙ c.in-Some.ensures.1 in
    subst (λ (l : KeyList). c.in-Some.at < length l.pairs) (sym c.new-in-Some.ensures) (bit_within g.V.Words.WORDS c.args.width c.args.key c.in-Some.at c.args.head.now
    c.args.block.now c.requires.level c.requires.child along place)

pub take_from_bit_leaf-requires-clause-there : goal.take_from_bit_leaf-requires-clause-there
take_from_bit_leaf-requires-clause-there g c =
    let along = c.in-Some.ensures.0 ∙ c.number.ensures.value in
    let place = ap (λ (l : KeyList). set.place (keys_of l.pairs) (c.args.key % 256)) (sym c.new.ensures) ∙ c.in-Some.ensures.1 in
    bit_there g.V.Words.WORDS c.args.width c.args.key c.in-Some.at c.args.head.now c.args.block.now c.requires.level c.requires.child along place ∙ ap Some (sym c.low_part.ensures)

pub returns-in-Some-clause-taken : goal.returns-in-Some-clause-taken
returns-in-Some-clause-taken g c =
    let words = g.V.Words.WORDS in
    let head = c.args.head.now in
    let block = c.args.block.now in
    let after = c.take_from_bit_leaf.new.block in
    let along = c.in-Some.ensures.0 ∙ c.number.ensures.value in
    let place = ap (λ (l : KeyList). set.place (keys_of l.pairs) (c.args.key % 256)) (sym c.new.ensures) ∙ c.in-Some.ensures.1 in
    let value = c.value_at-value.ensures ∙ ap (λ (l : KeyList). get_or (values_of l.pairs) c.in-Some.at 0) c.new-in-Some.ensures in
    let level = bit_stays words c.args.width c.args.key c.in-Some.at head block c.requires.level c.requires.child along place after c.take_from_bit_leaf.ensures.parts
    c.take_from_bit_leaf.ensures.taken c.requires.many in
    let left = ap (one_bitmap head) c.take_from_bit_leaf.ensures.taken in
    bit_gone {V = ℕ} words c.args.width c.args.key c.in-Some.at head block c.requires.level c.requires.child along place (Bit head after)
    (bit_tree words head after) level left refl c.value_at-value.result (bit_tree words head after) _ value
    (bit_kept {V = ℕ} words c.args.width c.args.key c.in-Some.at head block c.requires.level c.requires.child along place (Bit head after) (bit_tree words head after) level left refl c.requires.many)

pub returns-in-None-clause-taken : goal.returns-in-None-clause-taken
returns-in-None-clause-taken g c = (
  bit_none g.V.Words.WORDS c.args.head.now c.args.key (bit_list g.V.Words.WORDS c.args.block.now).pairs (bit_map g.V.Words.WORDS c.args.block.now)
      (λ same. ap (λ (l : KeyList). set.place (keys_of l.pairs) (c.args.key % 256)) (sym c.new.ensures) ∙ c.in-None.ensures (same ∙ sym c.number.ensures.value)),
  refl,
)
