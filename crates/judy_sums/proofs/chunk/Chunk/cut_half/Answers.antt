use Rattle.std.proofs.Common.{ℕ, zero, suc, ◌/◌, [], ◌∷◌, take, sym, subst}
use Rattle.judy_sums.specs.Pairs.{Pairs}
use Rattle.judy_sums.specs.Chunks.{IsFirst}
use Rattle.judy_sums.proofs.chunk.Chunk.cut_half.Goals as goal

first_taken : (pairs : Pairs) (at first : ℕ) → IsFirst pairs first → IsFirst (take at pairs) first
first_taken [] zero first begins = tt
first_taken [] (suc at) first begins = tt
first_taken (pair ∷ rest) zero first begins = tt
first_taken (pair ∷ rest) (suc at) first begins = begins

pub invariant_of-self-2 : goal.invariant_of-self-2
invariant_of-self-2 c =
    let half = c.len-half.result / 2 in
    subst (λ (pairs : Pairs). IsFirst pairs c.self.inside.first) (sym c.in_ok-entries.ensures.items) (first_taken c.self.inside.entries.items half c.self.inside.first c.self.invariant)
