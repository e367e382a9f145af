use Rattle.std.proofs.Common.{ℕ, zero, suc, ◌<◌, ◌≤◌, [], ◌∷◌, length, ap, arith, sym, subst}
use Rattle.std.specs.List.{insert}
use Rattle.judy_sums.specs.Pairs.{Pairs}
use Rattle.judy_sums.specs.Chunks.{IsFirst}
use Rattle.judy_sums.proofs.chunk.Chunk.insert.Goals as goal

-- What comes in behind the first pair leaves it the first.
first_kept : (pairs : Pairs) (at first : ℕ) (pair : ℕ × ℕ) → 0 < at → at ≤ length pairs → IsFirst pairs first → IsFirst (insert pairs at pair) first
first_kept pairs zero first pair behind within begins = absurd (omega arith)
first_kept [] (suc at) first pair behind within begins = absurd (omega arith)
first_kept (other ∷ rest) (suc at) first pair behind within begins = begins

pub invariant_of-self-else-at-eq0 : goal.invariant_of-self-else-at-eq0
invariant_of-self-else-at-eq0 c =
    let pairs : Pairs = c.self.inside.entries.items in
    let within : c.args.at ≤ length pairs = let long = ap length c.self.view_is in let in_it = c.requires in omega arith in
    let apart = c.if-at-eq0.false in
    subst (λ (pairs : Pairs). IsFirst pairs c.self.inside.first) (sym c.in_ok-insert_at.ensures.items)
    (first_kept pairs c.args.at c.self.inside.first c.args.entry (omega arith) within c.self.invariant)
