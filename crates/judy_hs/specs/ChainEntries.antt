-- The entries of the tree of a chain.
use Rattle.std.specs.Prelude.{ℕ, List, Vec, map}
use Rattle.judy_hs.specs.Chains.{Pairs}

-- As pairs: a key is the bytes of its vector.
abbrev pub pairs_of : {A : Type 0} → List (Vec ℕ A × ℕ) → Pairs
pairs_of entries = map (λ entry. (entry.0.items, entry.1)) entries
