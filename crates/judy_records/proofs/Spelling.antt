-- How bytes spell a word.
use Rattle.std.proofs.Common.{◌≡◌, ℕ, zero, suc, ◌+◌, ◌*◌, ◌^◌, ◌<◌, ◌≤◌, List, [], ◌∷◌, length, take, get_or, refl, ap, arith}
use Rattle.std.specs.Int.{from_be_bytes, w16, w32, w64}
use Rattle.judy_records.specs.Texts.{spelled}
use Rattle.std.proofs.Math.Nat.{pow-succ'}

-- One byte more.
pub spelled-more : (width : ℕ) (bytes : List ℕ) → spelled (suc width) bytes ≡ spelled width bytes * 256 + get_or bytes width 0
spelled-more zero [] = refl
spelled-more zero (byte ∷ bytes) = omega arith
spelled-more (suc width) [] = refl
spelled-more (suc width) (byte ∷ bytes) =
    let e : byte * 256 ^ suc width ≡ byte * (256 * 256 ^ width) = ap (λ n. byte * n) (pow-succ' 256 width) in
    omega (arith, e, spelled-more width bytes)

-- What bytes spell is below the power of their number.
pub spelled-below : (width : ℕ) (bytes : List ℕ) → ((k : ℕ) → get_or bytes k 0 < 256) → spelled width bytes < 256 ^ width
spelled-below zero bytes below = omega arith
spelled-below (suc width) bytes below =
    let e : 256 ^ suc width ≡ 256 * 256 ^ width = pow-succ' 256 width in
    omega (arith, e, spelled-more width bytes, spelled-below width bytes below, below width)

-- Eight bytes that are read at once.
pub from_be_bytes-spelled : (bytes : List ℕ) → 8 ≤ length bytes → from_be_bytes w64 (take 8 bytes) ≡ spelled 8 bytes
from_be_bytes-spelled (a ∷ b ∷ c ∷ d ∷ e ∷ f ∷ g ∷ h ∷ rest) enough = omega arith
from_be_bytes-spelled [] enough = absurd (omega arith)
from_be_bytes-spelled (a ∷ []) enough = absurd (omega arith)
from_be_bytes-spelled (a ∷ b ∷ []) enough = absurd (omega arith)
from_be_bytes-spelled (a ∷ b ∷ c ∷ []) enough = absurd (omega arith)
from_be_bytes-spelled (a ∷ b ∷ c ∷ d ∷ []) enough = absurd (omega arith)
from_be_bytes-spelled (a ∷ b ∷ c ∷ d ∷ e ∷ []) enough = absurd (omega arith)
from_be_bytes-spelled (a ∷ b ∷ c ∷ d ∷ e ∷ f ∷ []) enough = absurd (omega arith)
from_be_bytes-spelled (a ∷ b ∷ c ∷ d ∷ e ∷ f ∷ g ∷ []) enough = absurd (omega arith)

-- Four bytes that are read at once, and two.
pub four-spelled : (bytes : List ℕ) → length bytes ≡ 4 → from_be_bytes w32 bytes ≡ spelled 4 bytes
four-spelled (a ∷ b ∷ c ∷ d ∷ []) long = omega arith
four-spelled [] long = absurd (omega arith)
four-spelled (a ∷ []) long = absurd (omega arith)
four-spelled (a ∷ b ∷ []) long = absurd (omega arith)
four-spelled (a ∷ b ∷ c ∷ []) long = absurd (omega arith)
four-spelled (a ∷ b ∷ c ∷ d ∷ e ∷ rest) long = absurd (omega arith)

pub two-spelled : (bytes : List ℕ) → length bytes ≡ 2 → from_be_bytes w16 bytes ≡ spelled 2 bytes
two-spelled (a ∷ b ∷ []) long = omega arith
two-spelled [] long = absurd (omega arith)
two-spelled (a ∷ []) long = absurd (omega arith)
two-spelled (a ∷ b ∷ c ∷ rest) long = absurd (omega arith)

-- So many bytes spell what the first so many spell.
pub spelled-take : (width : ℕ) (bytes : List ℕ) → spelled width (take width bytes) ≡ spelled width bytes
spelled-take zero bytes = refl
spelled-take (suc width) [] = refl
spelled-take (suc width) (byte ∷ bytes) = ap (λ n. byte * 256 ^ width + n) (spelled-take width bytes)
