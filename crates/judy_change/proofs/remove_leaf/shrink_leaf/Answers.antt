use Rattle.std.proofs.Common.{◌≡◌, ◌<◌, ◌≤◌, length, get_or, sym, ap, ◌∙◌, subst, arith}
use Rattle.judy_model.specs.Shapes.{immediate_limit}
use Rattle.judy_bits.specs.ByteSets as set
use Rattle.judy_leaf.specs.KeyLists.{keys_of, values_of}
use Rattle.judy_leaf.specs.Leaves.{leaf_list}
use Rattle.judy_node.proofs.Leaves.{leaf_long}
use Rattle.judy_change.specs.LeafTrees.{one_leaf}
use Rattle.judy_change.proofs.Without.{value-none}
use Rattle.judy_change.proofs.LeafFacts.{left_list, leaf_within, leaf_left, leaf_gone}
use Rattle.judy_change.proofs.remove_leaf.shrink_leaf.Goals as goal

pub value_at-value-requires : goal.value_at-value-requires
value_at-value-requires g c =
    let words = g.V.Words.WORDS in
    let place = ap (λ l. set.place (keys_of l.pairs) c.args.key) (sym (c.reading.ensures ∙ c.of_parts-leaf.ensures)) ∙ sym c.find.ensures ∙ c.in-Some.is in
    subst (λ l. c.in-Some.at < length l.pairs) (sym (c.reading-in-Some.ensures ∙ c.of_parts-leaf.ensures))
    (leaf_within words c.args.width c.args.key c.in-Some.at c.args.count c.args.block c.requires.level c.requires.child place)

pub remove-requires : goal.remove-requires
remove-requires g c =
    let words = g.V.Words.WORDS in
    let place = ap (λ l. set.place (keys_of l.pairs) c.args.key) (sym (c.reading.ensures ∙ c.of_parts-leaf.ensures)) ∙ sym c.find.ensures ∙ c.in-Some.is in
    subst (λ l. c.in-Some.at < length l.pairs) (sym c.of_parts-leaf.ensures) (leaf_within words c.args.width c.args.key c.in-Some.at c.args.count c.args.block c.requires.level c.requires.child place)

pub immediate_left-requires : goal.immediate_left-requires
immediate_left-requires g c =
    let words = g.V.Words.WORDS in
    let place = ap (λ l. set.place (keys_of l.pairs) c.args.key) (sym (c.reading.ensures ∙ c.of_parts-leaf.ensures)) ∙ sym c.find.ensures ∙ c.in-Some.is in
    let left = leaf_left words c.args.width c.args.key c.in-Some.at c.args.count c.args.block c.requires.level c.requires.child place c.remove.new.self
    (c.remove.ensures ∙ ap (λ l. left_list l c.in-Some.at) c.of_parts-leaf.ensures) in
    let fewer = left.fewer in
    let long = leaf_long words c.args.count c.args.block c.requires.level.parts in
    let few = c.requires.few in
    let two : c.args.width ≡ 8 → 2 ≤ length c.remove.new.self.pairs = λ wide. let three = c.requires.three wide in omega arith in
    (omega arith, (c.requires.one, (left.wide, ((c.requires.child.low_width, c.requires.child.high_width), (left.some, (omega arith, (two, left.map)))))))

pub returns-in-Some : goal.returns-in-Some
returns-in-Some g c =
    let words = g.V.Words.WORDS in
    let place = ap (λ l. set.place (keys_of l.pairs) c.args.key) (sym (c.reading.ensures ∙ c.of_parts-leaf.ensures)) ∙ sym c.find.ensures ∙ c.in-Some.is in
    leaf_gone words c.args.width c.args.key c.in-Some.at c.args.count c.args.block c.requires.level c.requires.child place c.value_at-value.result c.remove.new.self c.immediate_left.result
    (c.remove.ensures ∙ ap (λ l. left_list l c.in-Some.at) c.of_parts-leaf.ensures)
    (c.value_at-value.ensures ∙ ap (λ l. get_or (values_of l.pairs) c.in-Some.at 0) (c.reading-in-Some.ensures ∙ c.of_parts-leaf.ensures))
    c.immediate_left.ensures

pub leaf_kind-requires : goal.leaf_kind-requires
leaf_kind-requires g c =
    let words = g.V.Words.WORDS in
    let more = c.requires.level.more in
    let long = leaf_long words c.args.count c.args.block c.requires.level.parts in
    subst (λ l. immediate_limit words l.width < length l.pairs) (sym c.of_parts-leaf.ensures) (omega arith)

pub returns-in-None : goal.returns-in-None
returns-in-None g c =
    let words = g.V.Words.WORDS in
    let place = ap (λ l. set.place (keys_of l.pairs) c.args.key) (sym (c.reading.ensures ∙ c.of_parts-leaf.ensures)) ∙ sym c.find.ensures ∙ c.in-None.is in
    (value-none (leaf_list words c.args.count c.args.block).pairs c.args.key place, c.close.ensures ∙ c.leaf_kind.ensures.tree ∙ ap one_leaf c.of_parts-leaf.ensures)
