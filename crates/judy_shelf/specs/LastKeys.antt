-- The key that was read last.
use Rattle.std.specs.Prelude.{ℕ, if◌then◌else◌, List, Option, Some, None}
use Rattle.judy_shelf.specs.declared.keys.LastKey.{LastKey}

-- It is one only once a key was kept.
abbrev pub last_key : LastKey → Option (List ℕ)
last_key last = if last.is_some then Some last.bytes.items else None
