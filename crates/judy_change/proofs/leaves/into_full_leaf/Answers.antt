use Rattle.std.proofs.Common.{length, false, ◌≡◌, refl, sym, ap, ◌∙◌, subst, arith}
use Rattle.judy_bits.specs.ByteSets.{has}
use Rattle.judy_leaf.specs.KeyLists.{KeyList, keys_of, with_pair}
use Rattle.judy_node.specs.Kinds.{leaf_tree, tree_of}
use Rattle.judy_node.specs.Built.{IsBuilt}
use Rattle.judy_node.proofs.Leaves.{leaf_long}
use Rattle.judy_change.proofs.Added.{more-added}
use Rattle.judy_change.proofs.leaves.into_full_leaf.Goals as goal

pub past_leaf-requires-clause-full : goal.past_leaf-requires-clause-full
past_leaf-requires-clause-full g c =
    let long = leaf_long g.V.Words.WORDS c.args.count c.args.block c.requires.level.parts in
    let same = ap (λ l. length l.pairs) c.new-full.ensures in
    let full = c.requires.full in
    let few = c.requires.level.parts.keys.few in
    omega arith

pub returns-in-Ok-past_leaf-clause-inserted : goal.returns-in-Ok-past_leaf-clause-inserted
returns-in-Ok-past_leaf-clause-inserted g c =
    let words = g.V.Words.WORDS in
    let old = leaf_tree words c.args.count c.args.block in
    let tree = tree_of words c.in-Ok-past_leaf.kind in
    let absent : has (keys_of old.pairs) c.args.pair.key ≡ false = ap (λ (l : KeyList). has (keys_of l.pairs) c.args.pair.key) (sym c.new.ensures) ∙ c.in-Err.ensures.0 in
    more-added words c.args.width c.args.pair.key c.args.pair.value old c.requires.child absent c.requires.fits c.requires.no_value (with_pair c.args.pair.key c.args.pair.value old.pairs) refl tree
    (subst (λ (l : KeyList). IsBuilt words c.args.width (with_pair c.args.pair.key c.args.pair.value l.pairs) tree) c.new-full.ensures c.in-Ok-past_leaf.ensures.built)
