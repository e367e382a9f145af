-- Copies of keys.
use Rattle.std.specs.Prelude.{List, ℕ}
use Rattle.judy_hs.specs.declared.spare.KeyCopy.{KeyCopy}
use Rattle.judy_hs.specs.declared.spare.KeyCopy.TheVariants.{Stack, Heap}

-- The bytes of a key that was copied.
abbrev pub bytes_of : KeyCopy → List ℕ
bytes_of (Stack bytes) = bytes.items
bytes_of (Heap bytes) = bytes.items
