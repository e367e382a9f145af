-- What the examples speak of.
use Rattle.std.specs.Prelude.{ℕ, zero, suc, ◌*◌, true, List, [], ◌∷◌, ◌++◌, codes}
use Rattle.std.specs.List.{range_with_len}
use Rattle.judy_model.specs.Arrays.{judy1, judyl, judysl, judyhs, empty_array}
use Rattle.judy_model.specs.Lines.{Line}
use Rattle.judy_model.specs.Stores.{Store}
use Rattle.judy_model.specs.Forms.{Shape, shape_in}
use Rattle.judy_model.specs.Shapes.{form_of}

-- A line that an LF ends.
abbrev pub line : List ℕ → Line
line bytes = record { bytes = bytes; ended = true }

-- The store with one judyl array `a` of a limit, without keys.
abbrev pub one_array : ℕ → Store
one_array limit = (codes "a", judyl (empty_array limit)) ∷ []

-- The store with a judyl array `a` and a judy1 array `s` behind it, both without keys.
abbrev pub two_arrays : Store
two_arrays = (codes "a", judyl (empty_array 1)) ∷ (codes "s", judy1 (empty_array 2)) ∷ []

-- The store with a judysl array `t` and a judyhs array `h` behind it, both without keys.
abbrev pub string_arrays : Store
string_arrays = (codes "t", judysl (empty_array 1)) ∷ (codes "h", judyhs (empty_array 2)) ∷ []

-- The script of two lines that makes the arrays of `two_arrays`. An LF ends the first.
abbrev pub two_lines : List ℕ
two_lines = codes "make a judyl 1" ++ 10 ∷ codes "make s judy1 2"

-- A shape by its six numbers.
abbrev pub shape : ℕ → ℕ → ℕ → ℕ → ℕ → ℕ → Shape
shape immediates leaves bitmap_leaves linear bitmap full =
    record { immediates = immediates; leaves = leaves; bitmap_leaves = bitmap_leaves; linear = linear; bitmap = bitmap; full = full }

-- So many runs of `size` words each, one at each multiple of a unit from 0 on.
abbrev pub runs : ℕ → ℕ → ℕ → List ℕ
runs unit size zero = []
runs unit size (suc count) = runs unit size count ++ range_with_len (count * unit) size

-- The shape of one immediate alone, and of one leaf.
abbrev pub one_immediate : Shape
one_immediate = shape 1 0 0 0 0 0

abbrev pub one_leaf : Shape
one_leaf = shape 0 1 0 0 0 0

-- The shape of a tree with so many value words a key, of keys of a width: the numbers from 0 on, so many of them.
abbrev pub first_keys : ℕ → ℕ → ℕ → Shape
first_keys words width count = shape_in (form_of words width (range_with_len 0 count))
