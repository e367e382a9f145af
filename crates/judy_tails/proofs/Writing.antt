-- The bytes of a key grow, and what lies beyond it stays.
use Rattle.std.proofs.Common.{◌≡◌, ◌+◌, ℕ, List, ◌∙◌, arith}
use Rattle.judy_tails.specs.Writers.{StaysBeyond}

pub stays-beyond : {W : Type 0} (len : W → ℕ) (beyond : W → ℕ → List ℕ × ℕ × ℕ) (first middle last : W) (more : ℕ) → len last ≡ len middle + more →
    StaysBeyond len beyond first middle → StaysBeyond len beyond middle last → StaysBeyond len beyond first last
stays-beyond len beyond first middle last more grows before after = λ place behind.
    after place behind ∙ before place (omega (arith, grows, behind))
