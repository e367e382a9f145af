use Rattle.std.proofs.Common.{◌^◌, sym, subst, rules}
use Rattle.judy_leaf.specs.KeyLists.{IsKeyList}
use Rattle.judy_node.specs.Trees.{IsMap}
use Rattle.judy_node.proofs.Leaves.{map_list, map_free}
use Rattle.judy_node.proofs.MadeFacts.{low_pairs_same}
use Rattle.judy_tree_tests.proofs.leaves.check_sorted.Goals as goal

pub from_sorted-requires-clause-list : goal.from_sorted-requires-clause-list
from_sorted-requires-clause-list g c =
    let words = g.V.Words.WORDS in
    let width = c.args.width in
    let pairs = c.args.pairs.now in
    let map : IsMap words 0 (256 ^ width) pairs = search rules in
    subst (λ low. IsKeyList (record { width = width; pairs = low })) (sym (low_pairs_same words 0 (256 ^ width) pairs map)) (map_list words width pairs c.requires.some c.requires.most map)

pub from_sorted-requires-clause-no_values : goal.from_sorted-requires-clause-no_values
from_sorted-requires-clause-no_values g c =
    let words = g.V.Words.WORDS in
    let top = 256 ^ c.args.width in
    let pairs = c.args.pairs.now in
    let map : IsMap words 0 top pairs = search rules in
    map_free words 0 top top pairs (subst (IsMap words 0 top) (sym (low_pairs_same words 0 top pairs map)) map)
