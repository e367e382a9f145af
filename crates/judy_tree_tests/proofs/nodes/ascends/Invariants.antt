use Rattle.std.proofs.Common.{◌^◌, drop}
use Rattle.judy_node.specs.Trees.{IsMap}
use Rattle.judy_tree_tests.proofs.nodes.ascends.Given as goal

abbrev pub invariant-loop-pair : goal.invariant-loop-pair
invariant-loop-pair g l = IsMap g.V.Words.WORDS l.low (256 ^ l.width) (drop l.pair-index l.pairs) → IsMap g.V.Words.WORDS 0 (256 ^ l.width) l.pairs
