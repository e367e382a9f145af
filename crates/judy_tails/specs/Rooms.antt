-- A key in an array of its own.
use Rattle.std.specs.Prelude.{ℕ, ◌≤◌, List, take}
use Rattle.judy_model.specs.declared.keys.TheConstants.{LONGEST_KEY}
use Rattle.judy_tails.specs.declared.writer.KeyRoom.{KeyRoom}

-- Its bytes, where they found room.
abbrev pub bytes_in : KeyRoom → List ℕ
bytes_in key = take key.len key.bytes

-- They did.
abbrev pub IsWhole : KeyRoom → Type 0
IsWhole key = key.len ≤ LONGEST_KEY
