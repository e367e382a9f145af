-- The hash FNV-1a in 32 bits.
use Rattle.std.specs.Prelude.{ℕ, ◌*◌, ◌%◌, ◌^◌, List, fold, bit_xor}

-- A byte is xored to the hash, which is then multiplied by a prime.
abbrev pub fnv_step : ℕ → ℕ → ℕ
fnv_step hash byte = bit_xor hash byte * 16777619 % 2 ^ 32

-- The hash of bytes, from the first one on.
abbrev pub fnv1a : List ℕ → ℕ
fnv1a bytes = fold fnv_step 2166136261 bytes
