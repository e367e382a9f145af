-- How a text is cut at the first place of a byte.
use Rattle.std.specs.Prelude.{◌≡◌, ℕ, Bool, not, ◌==◌, List, ◌∷◌, ◌++◌, IsTrue, Option, Some, None}
use Rattle.std.specs.List.{list_all}

-- The byte is nowhere in the text.
abbrev pub is_without : ℕ → List ℕ → Bool
is_without byte text = list_all (λ other. not (other == byte)) text

-- The text is the front, which is without the byte, and where the byte is there, it and the rest.
abbrev pub IsCutAt : ℕ → List ℕ → List ℕ → Option (List ℕ) → Type 0
IsCutAt byte text front None = (text ≡ front) × IsTrue (is_without byte front)
IsCutAt byte text front (Some rest) = (text ≡ front ++ byte ∷ rest) × IsTrue (is_without byte front)
