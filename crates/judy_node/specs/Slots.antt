-- The values of keys, and what a tree becomes where one of them is written.
use Rattle.std.specs.Prelude.{ℕ, ◌==◌, if◌then◌else◌, [], ◌∷◌, Option, Some, None}
use Rattle.judy_node.specs.Trees.{Pairs, Tree}

-- The value of a key; none where it is absent.
abbrev pub value_of : ℕ → Pairs → Option ℕ
value_of key [] = None
value_of key (pair ∷ pairs) = if pair.0 == key then Some pair.1 else value_of key pairs

-- The pairs with another value of a key.
abbrev pub written : ℕ → ℕ → Pairs → Pairs
written key value [] = []
written key value (pair ∷ pairs) = (pair.0, if pair.0 == key then value else pair.1) ∷ written key value pairs

-- A tree with another value of a key: its width and its form stay.
abbrev pub with_value : Tree → ℕ → ℕ → Tree
with_value tree key value = record tree { pairs = written key value tree.pairs }
