-- How much a store holds. (This project's own.)
use Rattle.std.specs.Prelude.{ℕ, ◌+◌, [], ◌∷◌}
use Rattle.judy_model.specs.Arrays.{len_of}
use Rattle.judy_model.specs.Stores.{Store}

-- How many arrays and keys of arrays there are, counted together.
abbrev pub size_of : Store → ℕ
size_of [] = 0
size_of (entry ∷ store) = 1 + len_of entry.1 + size_of store
