use Rattle.std.proofs.Common.{◌≡◌, ◌≢◌, ◌-◌, ◌*◌, ◌%◌, ◌^◌, ◌<◌, ◌≤◌, Some, length, get_or, sym, ap, ◌∙◌, subst, arith}
use Rattle.judy_bits.specs.ByteSets as set
use Rattle.judy_leaf.specs.KeyLists.{KeyList, keys_of, values_of}
use Rattle.judy_leaf.specs.BitLeaves.{bit_list}
use Rattle.judy_node.specs.Kinds.{bit_tree}
use Rattle.judy_node.proofs.Leaves.{bit_map}
use Rattle.judy_node.proofs.Maps.{length-shift}
use Rattle.judy_change.specs.LeafTrees.{one_bitmap}
use Rattle.judy_change.proofs.LeafFacts.{left_list, one_pair, bit_none, bit_within, bit_found, bit_fewer, bit_child, bit_long, bit_gone}
use Rattle.judy_change.proofs.remove_leaf.shrink_bitmap.Goals as goal

pub value_at-value-requires : goal.value_at-value-requires
value_at-value-requires g c =
    let words = g.V.Words.WORDS in
    let list = bit_list words c.args.block in
    let along = c.in-Some.ensures.0 ∙ c.number.ensures.value in
    let place = ap (λ (l : KeyList). set.place (keys_of l.pairs) (c.args.key % 256)) (sym (c.reading.ensures ∙ c.of_parts-bits.ensures)) ∙ c.in-Some.ensures.1 in
    subst (λ (l : KeyList). c.in-Some.at < length l.pairs) (sym (c.reading-in-Some.ensures ∙ c.of_parts-bits.ensures))
    (bit_within words c.args.width c.args.key c.in-Some.at c.args.head c.args.block c.requires.level c.requires.child along place)

pub bitmap_kind-requires-clause-some : goal.bitmap_kind-requires-clause-some
bitmap_kind-requires-clause-some g c =
    subst (λ (l : KeyList). 1 ≤ length l.pairs) (sym c.of_parts-bits.ensures) c.requires.level.some

pub bitmap_kind-requires-in-None-clause-some : goal.bitmap_kind-requires-in-None-clause-some
bitmap_kind-requires-in-None-clause-some g c =
    subst (λ (l : KeyList). 1 ≤ length l.pairs) (sym c.of_parts-bits.ensures) c.requires.level.some

pub bitmap_kind-requires-clause-skips : goal.bitmap_kind-requires-clause-skips
bitmap_kind-requires-clause-skips g c =
    subst (λ (l : KeyList). c.args.head < 256 ^ (l.width - 1)) (sym c.of_parts-bits.ensures) c.requires.level.skips

pub bitmap_kind-requires-in-None-clause-skips : goal.bitmap_kind-requires-in-None-clause-skips
bitmap_kind-requires-in-None-clause-skips g c =
    subst (λ (l : KeyList). c.args.head < 256 ^ (l.width - 1)) (sym c.of_parts-bits.ensures) c.requires.level.skips

pub returns-then-len-eq1 : goal.returns-then-len-eq1
returns-then-len-eq1 g c =
    let words = g.V.Words.WORDS in
    let list = bit_list words c.args.block in
    let along = c.in-Some.ensures.0 ∙ c.number.ensures.value in
    let place = ap (λ (l : KeyList). set.place (keys_of l.pairs) (c.args.key % 256)) (sym (c.reading.ensures ∙ c.of_parts-bits.ensures)) ∙ c.in-Some.ensures.1 in
    let value = c.value_at-value.ensures ∙ ap (λ (l : KeyList). get_or (values_of l.pairs) c.in-Some.at 0) (c.reading-in-Some.ensures ∙ c.of_parts-bits.ensures) in
    let count = c.len.ensures.count ∙ ap (λ (l : KeyList). length l.pairs) (c.reading-in-Some-2.ensures ∙ c.of_parts-bits.ensures) in
    let one = length-shift (c.args.head * 256) list.pairs ∙ sym count ∙ c.if-len-eq1.true in (
      one_pair (bit_tree words c.args.head c.args.block).pairs c.args.key c.value_at-value.result one
          (bit_found words c.args.width c.args.key c.in-Some.at c.args.head c.args.block c.requires.level c.requires.child along place ∙ ap Some (sym value)),
      c.close.ensures ∙ c.bitmap_kind.ensures.tree ∙ ap (one_bitmap c.args.head) c.of_parts-bits.ensures,
    )

pub remove-requires : goal.remove-requires
remove-requires g c =
    let words = g.V.Words.WORDS in
    let list = bit_list words c.args.block in
    let along = c.in-Some.ensures.0 ∙ c.number.ensures.value in
    let place = ap (λ (l : KeyList). set.place (keys_of l.pairs) (c.args.key % 256)) (sym (c.reading.ensures ∙ c.of_parts-bits.ensures)) ∙ c.in-Some.ensures.1 in
    subst (λ (l : KeyList). c.in-Some.at < length l.pairs) (sym c.of_parts-bits.ensures) (bit_within words c.args.width c.args.key c.in-Some.at c.args.head
    c.args.block c.requires.level c.requires.child along place)

pub bitmap_kind-requires-in-Some-clause-some : goal.bitmap_kind-requires-in-Some-clause-some
bitmap_kind-requires-in-Some-clause-some g c =
    let words = g.V.Words.WORDS in
    let list = bit_list words c.args.block in
    let along = c.in-Some.ensures.0 ∙ c.number.ensures.value in
    let place = ap (λ (l : KeyList). set.place (keys_of l.pairs) (c.args.key % 256)) (sym (c.reading.ensures ∙ c.of_parts-bits.ensures)) ∙ c.in-Some.ensures.1 in
    let count = c.len.ensures.count ∙ ap (λ (l : KeyList). length l.pairs) (c.reading-in-Some-2.ensures ∙ c.of_parts-bits.ensures) in
    let left = c.remove.ensures ∙ ap (λ l. left_list l c.in-Some.at) c.of_parts-bits.ensures in
    let fewer = bit_fewer words c.args.width c.args.key c.in-Some.at c.args.head c.args.block c.requires.level c.requires.child along place in
    let long = ap (λ (l : KeyList). length l.pairs) left in
    let some = c.requires.level.some in
    let apart : length list.pairs ≢ 1 = λ one. c.if-len-eq1.false (count ∙ one) in
    omega arith

pub bitmap_kind-requires-in-Some-clause-skips : goal.bitmap_kind-requires-in-Some-clause-skips
bitmap_kind-requires-in-Some-clause-skips g c =
    let left = c.remove.ensures ∙ ap (λ l. left_list l c.in-Some.at) c.of_parts-bits.ensures in
    subst (λ (l : KeyList). c.args.head < 256 ^ (l.width - 1)) (sym left) c.requires.level.skips

pub lessen-child-requires : goal.lessen-child-requires
lessen-child-requires g c =
    let words = g.V.Words.WORDS in
    let list = bit_list words c.args.block in
    let along = c.in-Some.ensures.0 ∙ c.number.ensures.value in
    let place = ap (λ (l : KeyList). set.place (keys_of l.pairs) (c.args.key % 256)) (sym (c.reading.ensures ∙ c.of_parts-bits.ensures)) ∙ c.in-Some.ensures.1 in
    let left = c.remove.ensures ∙ ap (λ l. left_list l c.in-Some.at) c.of_parts-bits.ensures in
    let child = bit_child words c.args.width c.args.key c.in-Some.at c.args.head c.args.block c.requires.level c.requires.child along place c.bitmap_kind-in-Some.result
    c.close-child.result c.bitmap_kind-in-Some.ensures.level (c.bitmap_kind-in-Some.ensures.tree ∙ ap (one_bitmap c.args.head) left) c.close-child.ensures in
    let few = c.requires.few in
    let long = bit_long words c.args.width c.args.key c.in-Some.at c.args.head c.args.block c.requires.level c.requires.child along place c.bitmap_kind-in-Some.result
    c.close-child.result c.bitmap_kind-in-Some.ensures.level (c.bitmap_kind-in-Some.ensures.tree ∙ ap (one_bitmap c.args.head) left) c.close-child.ensures in
    let moved = length-shift (c.args.head * 256) list.pairs in
    let two : c.args.width ≡ 8 → 2 ≤ length c.close-child.result.pairs = λ wide. let three = c.requires.three wide in omega arith in
    (omega arith, (c.requires.one, (child, (omega arith, two))))

pub returns-else-len-eq1 : goal.returns-else-len-eq1
returns-else-len-eq1 g c =
    let words = g.V.Words.WORDS in
    let list = bit_list words c.args.block in
    let along = c.in-Some.ensures.0 ∙ c.number.ensures.value in
    let place = ap (λ (l : KeyList). set.place (keys_of l.pairs) (c.args.key % 256)) (sym (c.reading.ensures ∙ c.of_parts-bits.ensures)) ∙ c.in-Some.ensures.1 in
    let value = c.value_at-value.ensures ∙ ap (λ (l : KeyList). get_or (values_of l.pairs) c.in-Some.at 0) (c.reading-in-Some.ensures ∙ c.of_parts-bits.ensures) in
    let left = c.remove.ensures ∙ ap (λ l. left_list l c.in-Some.at) c.of_parts-bits.ensures in
    bit_gone words c.args.width c.args.key c.in-Some.at c.args.head c.args.block c.requires.level c.requires.child along place c.bitmap_kind-in-Some.result
    c.close-child.result c.bitmap_kind-in-Some.ensures.level (c.bitmap_kind-in-Some.ensures.tree ∙ ap (one_bitmap c.args.head) left) c.close-child.ensures
    c.value_at-value.result c.lessen-child.result.0 c.lessen-child.result.1 value (c.lessen-child.ensures 0)

pub returns-in-None : goal.returns-in-None
returns-in-None g c =
    let words = g.V.Words.WORDS in (
      bit_none words c.args.head c.args.key (bit_list words c.args.block).pairs (bit_map words c.args.block)
          (λ same. ap (λ (l : KeyList). set.place (keys_of l.pairs) (c.args.key % 256)) (sym (c.reading.ensures ∙ c.of_parts-bits.ensures)) ∙ c.in-None.ensures (same ∙ sym c.number.ensures.value)),
      c.close-in-None.ensures ∙ c.bitmap_kind-in-None.ensures.tree ∙ ap (one_bitmap c.args.head) c.of_parts-bits.ensures,
    )
