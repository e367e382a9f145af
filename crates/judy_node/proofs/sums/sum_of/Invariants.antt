use Rattle.std.proofs.Common.{◌≡◌, take, sum}
use Rattle.judy_node.proofs.sums.sum_of.Given as goal

abbrev pub invariant-loop-word : goal.invariant-loop-word
invariant-loop-word l = l.total ≡ sum (take l.word-index l.words)
