-- Bytes by where their LFs (10) stand.
use Rattle.std.specs.Prelude.{◌≡◌, ◌≢◌, ℕ, ◌⊎◌, All, List, [], ◌∷◌, ◌++◌}

-- Bytes are closed where there are none, or where an LF is the last of them.
abbrev pub IsClosed : List ℕ → Type 0
IsClosed bytes = (bytes ≡ []) ⊎ ((lines : List ℕ) × (bytes ≡ lines ++ 10 ∷ []))

-- No LF is among them.
abbrev pub HasNoLineFeed : List ℕ → Type 0
HasNoLineFeed = All (λ byte. byte ≢ 10)
