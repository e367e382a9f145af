use Rattle.std.proofs.Common.{◌≡◌, ◌++◌, ℕ, All}
use Rattle.std.specs.FinMap.{entries}
use Rattle.judy_hs.specs.Chains.{value_in}
use Rattle.judy_hs.specs.LongGroups.{chain_at}
use Rattle.judy_hs.specs.Values.{AreWords}
use Rattle.judy_hs.proofs.long_group.LongGroup.words_law.Given as goal

-- the values at the places that came are words
abbrev pub invariant-hashes : goal.invariant-hashes
invariant-hashes l =
    (entries l.self.hashes.map ≡ l.yielded ++ l.place-iterator)
    × All (λ (entry : ℕ × ℕ). AreWords (value_in (chain_at l.self entry.1))) l.yielded
