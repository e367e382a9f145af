-- What is written of pairs.
use Rattle.std.specs.Prelude.{ℕ, List, map}

-- What stands for pairs, each made of a key and its value.
abbrev pub made_of : {E : Type 0} → (ℕ → ℕ → E) → List (ℕ × ℕ) → List E
made_of made pairs = map (λ pair. made pair.0 pair.1) pairs
