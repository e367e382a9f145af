use Rattle.std.proofs.Common.{◌≤◌, ◌^◌, ◌∙◌, sym, ap, arith}
use Rattle.std.specs.FinMap as finmap
use Rattle.judy_leaf.specs.KeyLists.{keys_of}
use Rattle.judy_word.specs.WordArrays.{WordArray}
use Rattle.judy_word.proofs.IterFacts.{keys_in_order}
use Rattle.judy_word.proofs.SortedFacts.{keys_kept, all_zero, map_itself}
use Rattle.judy_word.proofs.sorted.Judy1.from_sorted.Goals as goal

pub tree_of-requires : goal.tree_of-requires
tree_of-requires c =
    let none_is : 0 ≤ 1 = omega arith in
    (omega arith, (none_is, (c.requires, λ _. all_zero c.args.keys.now)))

pub returns-clause-keys : goal.returns-clause-keys
returns-clause-keys c =
    ap (λ (a : WordArray). finmap.keys a.map) c.of.ensures
    ∙ sym (keys_in_order 0 (256 ^ 8) c.in_ok-tree.tree.tree.pairs c.law.ensures.node.map)
    ∙ ap keys_of c.in_ok-tree.ensures.pairs
    ∙ keys_kept (λ key. key) (λ key. 0) c.args.keys.now
    ∙ map_itself c.args.keys.now
