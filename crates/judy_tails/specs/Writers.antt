-- What a writer of keys was given, and what it leaves alone.
use Rattle.std.specs.Prelude.{◌≡◌, ◌≤◌, ℕ, List, length}
use Rattle.std.proofs.Common.{subst, sym, ap, ◌∙◌}

-- From the end of the key on, all is what it was.
abbrev pub StaysBeyond : {W : Type 0} → (W → ℕ) → (W → ℕ → List ℕ × ℕ × ℕ) → W → W → Type 0
StaysBeyond len beyond before after = (place : ℕ) → len after ≤ place → beyond after place ≡ beyond before place

-- It was given bytes of which this is true.
pub record WasGiven {W : Type 0} (has : W → List ℕ → Type 0) (writer : W) (IsSo : List ℕ → Type 0) : Type 0 where
  pub bytes : List ℕ
  pub given : has writer bytes
  pub are : IsSo bytes

-- A key of that length fits where its bytes do,
pub fits_in : (len room : ℕ) (key : List ℕ) → len ≡ length key → length key ≤ room → len ≤ room
fits_in len room key long fits = subst (λ count. count ≤ room) (sym long) fits

-- and ends where they do.
pub ends_there : (len : ℕ) (bytes key : List ℕ) → len ≡ length key → bytes ≡ key → len ≡ length bytes
ends_there len bytes key long are = long ∙ sym (ap length are)
