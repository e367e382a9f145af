-- A word as its bytes, the highest first.
use Rattle.std.specs.Prelude.{ℕ, zero, suc, ◌+◌, ◌-◌, ◌*◌, ◌/◌, ◌%◌, ◌^◌, List, [], ◌∷◌, length}

-- Byte i of the eight bytes of a word, counted from 0, the highest.
abbrev pub byte_of : ℕ → ℕ → ℕ
byte_of word i = word / 256 ^ (7 - i) % 256

-- The lowest bytes of a word, so many of them, the highest of these first. The eight lowest are all of it.
abbrev pub low_bytes : ℕ → ℕ → List ℕ
low_bytes zero word = []
low_bytes (suc width) word = (word / 256 ^ width % 256) ∷ low_bytes width word

-- The number that bytes spell, the first of them the highest.
abbrev pub number_of : List ℕ → ℕ
number_of [] = 0
number_of (byte ∷ bytes) = byte * 256 ^ length bytes + number_of bytes
