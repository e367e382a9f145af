-- Shapes as the calls of a tree count them.
use Rattle.std.specs.Prelude.{ℕ, ◌+◌}
use Rattle.judy_model.specs.Forms as forms
use Rattle.judy_node.specs.declared.shape.Shape.{Shape}

-- A shape of the program as one of the definitions.
abbrev pub shape_as : Shape → forms.Shape
shape_as s = record { immediates = s.immediates; leaves = s.leaves; bitmap_leaves = s.bitmap_leaves; linear = s.linear; bitmap = s.bitmap; full = s.full }

-- Two shapes together.
abbrev pub plus : forms.Shape → forms.Shape → forms.Shape
plus one other = record {
  immediates = one.immediates + other.immediates;
  leaves = one.leaves + other.leaves;
  bitmap_leaves = one.bitmap_leaves + other.bitmap_leaves;
  linear = one.linear + other.linear;
  bitmap = one.bitmap + other.bitmap;
  full = one.full + other.full;
}

-- How many nodes a shape has.
abbrev pub nodes_in : forms.Shape → ℕ
nodes_in s = s.immediates + s.leaves + s.bitmap_leaves + s.linear + s.bitmap + s.full
