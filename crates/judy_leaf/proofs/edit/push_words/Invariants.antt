use Rattle.std.proofs.Common.{zero, ◌+◌, ◌-◌, ◌/◌, ◌≤◌, length, slice_index}
use Rattle.judy_leaf.specs.Packing.{places, pushed}
use Rattle.judy_leaf.specs.Edits.{IsEdit}
use Rattle.judy_leaf.proofs.edit.push_words.Given as goal

abbrev pub invariant-loop-at : goal.invariant-loop-at
invariant-loop-at g l =
    IsEdit g.row.W l.at (pushed zero (slice_index (places g.row.W (slice_index l.initial.block.words (l.at - 1))) (8 / g.row.W - 1))) l.initial.block l.block
    × (l.word + 1 ≤ l.at) × (l.at ≤ length l.initial.block.words)
