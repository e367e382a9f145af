-- Arguments of a command as contracts see them.
use Rattle.std.specs.Prelude.{ℕ, List, map}
use Rattle.std.specs.Borrow.{Bor}

-- The bytes of each argument.
abbrev pub texts : List (Bor (List ℕ)) → List (List ℕ)
texts arguments = map (λ argument. argument.now) arguments
