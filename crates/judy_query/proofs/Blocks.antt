-- The blocks of a branch's bytes.
use Rattle.std.proofs.Common.{ℕ, ◌*◌, ◌<◌, ◌≤◌, arith}
use Rattle.std.proofs.lemmas.Nat.{mul-le}

pub block_word : (block unit : ℕ) → 0 < unit → block ≤ block * unit
block_word block unit some = let e = mul-le block 1 block unit (omega arith) some in omega arith
