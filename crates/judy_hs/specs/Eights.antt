-- A hash that takes eight bytes at a step.
use Rattle.std.specs.Prelude.{ℕ, zero, suc, ◌-◌, ◌*◌, ◌/◌, ◌%◌, ◌^◌, List, length, take, drop, fold, bit_xor, nat_lt, if◌then◌else◌}
use Rattle.std.specs.Int.{from_le_bytes, w64}

-- A word is xored to the hash, which is then multiplied by an odd number.
abbrev pub multiplied : ℕ → ℕ → ℕ
multiplied hash word = bit_xor hash word * 11400714819323198485 % 2 ^ 64

-- The upper half of that is xored to the lower one.
abbrev pub word_step : ℕ → ℕ → ℕ
word_step hash word = bit_xor (multiplied hash word) (multiplied hash word / 4294967296)

-- So many words of eight bytes each, from the first on, a word's first byte its lowest.
abbrev pub words_from : ℕ → ℕ → List ℕ → ℕ
words_from zero hash bytes = hash
words_from (suc count) hash bytes = words_from count (word_step hash (from_le_bytes w64 (take 8 bytes))) (drop 8 bytes)

-- The last step takes the last eight bytes as a word; of fewer bytes than eight, each is one.
abbrev pub last_step : ℕ → List ℕ → ℕ
last_step hash bytes = if nat_lt (length bytes) 8 then fold word_step hash bytes else word_step hash (from_le_bytes w64 (drop (length bytes - 8) bytes))

-- The hash of bytes.
abbrev pub by_eights : List ℕ → ℕ
by_eights bytes = last_step (words_from ((length bytes - 1) / 8) 14695981039346656037 bytes) bytes % 4294967296
