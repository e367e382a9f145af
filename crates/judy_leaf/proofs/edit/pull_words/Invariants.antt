use Rattle.std.proofs.Common.{zero, ◌+◌, ◌≤◌, ◌<◌, ◌^◌, length, drop}
use Rattle.judy_leaf.specs.Packing.{pulled}
use Rattle.judy_leaf.specs.Edits.{IsEdit, IsFirstPlace}
use Rattle.judy_leaf.proofs.edit.pull_words.Given as goal

abbrev pub invariant-loop-at : goal.invariant-loop-at
invariant-loop-at g l =
    IsEdit g.row.W l.at (pulled zero 0) l.initial.block l.block × IsFirstPlace g.row.W (drop l.at l.initial.block.words) l.first × (l.first < 256 ^ g.row.W)
    × (l.word + 1 ≤ l.at) × (l.at ≤ length l.initial.block.words)
