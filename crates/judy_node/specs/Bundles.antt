-- A value that is moved as a whole.
use Rattle.std.specs.Prelude.{◌≡◌, [], ◌∷◌, length, get_or}
use Rattle.judy_node.specs.declared.bundle.Bundle.{Bundle}

-- The value in its array.
abbrev pub bundled : {T : Type 0} → T → Bundle T
bundled value = record { items = value ∷ [] }

-- The array has its one value.
abbrev pub IsBundle : {T : Type 0} → Bundle T → Type 0
IsBundle of = length of.items ≡ 1

-- The value; another, given first, stands where there is none.
abbrev pub held : {T : Type 0} → T → Bundle T → T
held other of = get_or of.items 0 other
