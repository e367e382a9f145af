-- What contracts are told of a source over a slice.
use Rattle.std.specs.Prelude.{ℕ, List, ◌∷◌, ◌++◌, length, take}

-- The slice behind its length, and then so many of its first bytes.
abbrev pub told_of : List ℕ → ℕ → List ℕ
told_of bytes given = length bytes ∷ (bytes ++ take given bytes)
