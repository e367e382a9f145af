-- What a line buffer holds of a line.
use Rattle.std.specs.Prelude.{◌≡◌, ℕ, nat_lt, false, List, length}
use Rattle.judy_script.specs.declared.line.LineBuffer.{LineBuffer}

-- It knows whether the bytes so far are too many for a line; where they aren't, it has them.
pub record Holds (buffer : LineBuffer) (bytes : List ℕ) : Type 0 where
  pub long : buffer.is_long ≡ nat_lt 4096 (length bytes)
  pub kept : buffer.is_long ≡ false → buffer.bytes.items ≡ bytes
