use Rattle.std.proofs.Common.{◌^◌, ◌∙◌, ap}
use Rattle.std.specs.FinMap as finmap
use Rattle.judy_word.specs.WordArrays.{WordArray}
use Rattle.judy_word.proofs.IterFacts.{entries_are}
use Rattle.judy_word.proofs.sorted.JudyL.from_items.Goals as goal

pub returns-clause-pairs : goal.returns-clause-pairs
returns-clause-pairs g c = ap (λ (a : WordArray). finmap.entries a.map) c.of.ensures ∙ entries_are 1 (256 ^ 8) c.in_ok-tree.tree.tree.pairs c.law.ensures.node.map ∙ c.in_ok-tree.ensures.pairs
