-- How a call of C tells a word or a slot that may not be there.
use Rattle.std.specs.Prelude.{◌≡◌, ℕ, Bool, true, false, Option, Some, None, MatchOption}
use Rattle.std.specs.Borrow.{MutBor}

-- The call answers whether there is one, and writes it where it is to be told; where there is none, what stands there stays.
abbrev pub IsTold : {A : Type 0} → Option A → Bool → A → A → Type 0
IsTold found told before after = MatchOption found ((told ≡ false) × (after ≡ before)) (λ it. (told ≡ true) × (after ≡ it))

-- The slot that a call lends, where it answers true; else what stands there is the caller's own.
abbrev pub lent_where : Bool → MutBor ℕ → Option (MutBor ℕ)
lent_where true slot = Some slot
lent_where false slot = None
