use Rattle.std.proofs.Common.{ℕ, ◌≡◌, ◌<◌, false, length, sym, ap, ◌∙◌, subst, arith}
use Rattle.judy_model.specs.Shapes.{immediate_limit}
use Rattle.judy_bits.specs.ByteSets.{has}
use Rattle.judy_leaf.specs.KeyLists.{KeyList, keys_of}
use Rattle.judy_leaf.specs.Leaves.{leaf_list}
use Rattle.judy_node.specs.Kinds.{leaf_tree}
use Rattle.judy_node.specs.declared.child.KindOf.TheVariants.{Leaf}
use Rattle.judy_node.proofs.Leaves.{leaf_long}
use Rattle.judy_change.proofs.PairPlaces.{length-with_pair}
use Rattle.judy_change.proofs.Added.{child-with}
use Rattle.judy_change.proofs.leaves.into_leaf.Goals as goal

pub returns-in-Ok-put_in_leaf-clause-level : goal.returns-in-Ok-put_in_leaf-clause-level
returns-in-Ok-put_in_leaf-clause-level g c =
    let words = g.V.Words.WORDS in
    let n = c.put_in_leaf.new in
    let made = c.in-Ok-put_in_leaf.ensures in
    let more = c.requires.level.more in
    let old = leaf_long words c.args.count.now c.args.block.now c.requires.level.parts in
    let new = leaf_long words n.count n.block made.parts in
    let one = length-with_pair c.args.pair.key c.args.pair.value (leaf_list words c.args.count.now c.args.block.now).pairs in
    let long = ap (λ l. length l.pairs) made.added in
    record { parts = made.parts; more = subst (λ w. immediate_limit words w < n.count) (sym (ap (λ l. l.width) made.added)) (omega arith) }

pub returns-in-Ok-put_in_leaf-clause-child : goal.returns-in-Ok-put_in_leaf-clause-child
returns-in-Ok-put_in_leaf-clause-child g c =
    let words = g.V.Words.WORDS in
    let n = c.put_in_leaf.new in
    let made = c.in-Ok-put_in_leaf.ensures in
    let old = leaf_tree words c.args.count.now c.args.block.now in
    let absent : has (keys_of old.pairs) c.args.pair.key ≡ false = ap (λ (l : KeyList). has (keys_of l.pairs) c.args.pair.key) (sym c.new.ensures) ∙ c.in-Err.ensures.0 in
    child-with {V = ℕ} words c.args.width c.args.pair.key c.args.pair.value old (Leaf n.count n.block) c.requires.child (returns-in-Ok-put_in_leaf-clause-level g c)
    (ap (λ l. l.width) made.added) (ap (λ l. l.pairs) made.added) absent c.requires.fits c.requires.no_value
