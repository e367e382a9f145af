use Rattle.std.proofs.Common.{◌≡◌, length, ap, arith}
use Rattle.judy_node.proofs.Maps.{length-keys_of}
use Rattle.judy_word.proofs.SortedFacts.{map_of_sorted}
use Rattle.judy_word.proofs.tree_array.TreeArray.from_sorted.Goals as goal

pub from_sorted-requires : goal.from_sorted-requires
from_sorted-requires g c = (omega arith, (c.requires.one, map_of_sorted g.V.Words.WORDS 0 c.args.pairs.now c.requires.sorted.ascending c.requires.sorted.words c.requires.no_values))

pub invariant_of-result : goal.invariant_of-result
invariant_of-result g c =
    let same : length c.in_ok-root.root.pairs ≡ length c.args.pairs.now = ap length c.in_ok-root.ensures.pairs in
    let count = length-keys_of c.args.pairs.now in
    let within = c.requires.sorted.within in
    record { holds_some = c.requires.some; within_limit = omega arith; tight = λ _. c.in_ok-root.ensures.tight }
