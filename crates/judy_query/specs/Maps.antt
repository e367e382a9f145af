-- A tree as a finite map.
use Rattle.std.specs.Prelude.{ℕ}
use Rattle.std.specs.FinMap.{FinMap, from_sorted}
use Rattle.judy_model.specs.Keys.{word_order}
use Rattle.judy_node.specs.Trees.{Pairs}

-- The map that the pairs of a tree are.
abbrev pub map_of : Pairs → FinMap word_order ℕ
map_of pairs = from_sorted {R = word_order} pairs
