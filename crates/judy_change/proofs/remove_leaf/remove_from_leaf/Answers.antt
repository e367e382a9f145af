use Rattle.std.proofs.Common.{◌<◌, length, get_or, refl, sym, ap, ◌∙◌, subst}
use Rattle.judy_bits.specs.ByteSets as set
use Rattle.judy_leaf.specs.KeyLists.{keys_of, values_of}
use Rattle.judy_leaf.specs.Leaves.{leaf_list}
use Rattle.judy_change.proofs.Without.{value-none}
use Rattle.judy_change.proofs.LeafFacts.{leaf_within, leaf_stays, leaf_gone-here}
use Rattle.judy_change.proofs.remove_leaf.remove_from_leaf.Goals as goal

pub value_at-value-requires : goal.value_at-value-requires
value_at-value-requires g c =
    let place = ap (λ l. set.place (keys_of l.pairs) c.args.key) (sym c.new.ensures) ∙ sym c.find.ensures ∙ c.in-Some.is in
    subst (λ l. c.in-Some.at < length l.pairs) (sym c.new-in-Some.ensures) (leaf_within g.V.Words.WORDS c.args.width c.args.key c.in-Some.at c.args.count.now
    c.args.block.now c.requires.level c.requires.child place)

pub take_from_leaf-requires-clause-inside : goal.take_from_leaf-requires-clause-inside
take_from_leaf-requires-clause-inside g c =
    let place = ap (λ l. set.place (keys_of l.pairs) c.args.key) (sym c.new.ensures) ∙ sym c.find.ensures ∙ c.in-Some.is in
    leaf_within g.V.Words.WORDS c.args.width c.args.key c.in-Some.at c.args.count.now c.args.block.now c.requires.level c.requires.child place

pub returns-in-Some-clause-level : goal.returns-in-Some-clause-level
returns-in-Some-clause-level g c =
    let n = c.take_from_leaf.new in
    let place = ap (λ l. set.place (keys_of l.pairs) c.args.key) (sym c.new.ensures) ∙ sym c.find.ensures ∙ c.in-Some.is in
    leaf_stays g.V.Words.WORDS c.args.width c.args.key c.in-Some.at c.args.count.now c.args.block.now c.requires.level c.requires.child place n.count n.block
    c.take_from_leaf.ensures.parts c.take_from_leaf.ensures.taken c.requires.many

pub returns-in-Some-clause-taken : goal.returns-in-Some-clause-taken
returns-in-Some-clause-taken g c =
    let n = c.take_from_leaf.new in
    let place = ap (λ l. set.place (keys_of l.pairs) c.args.key) (sym c.new.ensures) ∙ sym c.find.ensures ∙ c.in-Some.is in
    let value = c.value_at-value.ensures ∙ ap (λ l. get_or (values_of l.pairs) c.in-Some.at 0) c.new-in-Some.ensures in
    leaf_gone-here g.V.Words.WORDS c.args.width c.args.key c.in-Some.at c.args.count.now c.args.block.now c.requires.level c.requires.child place n.count c.value_at-value.result n.block
    (returns-in-Some-clause-level g c) c.take_from_leaf.ensures.taken value

pub returns-in-None-clause-taken : goal.returns-in-None-clause-taken
returns-in-None-clause-taken g c =
    let place = ap (λ l. set.place (keys_of l.pairs) c.args.key) (sym c.new.ensures) ∙ sym c.find.ensures ∙ c.in-None.is in
    (value-none (leaf_list g.V.Words.WORDS c.args.count.now c.args.block.now).pairs c.args.key place, refl)
