use Rattle.std.proofs.Common.{◌≡◌, ◌++◌, ℕ, List, All}
use Rattle.judy_model.specs.Keys.{IsWord}
use Rattle.judy_hs.specs.ChainEntries.{pairs_of}
use Rattle.judy_hs.proofs.ChainEntryLemmas.{shown}
use Rattle.judy_hs.proofs.chain.Chain.words_law.Given as goal

-- the values that came are words
abbrev pub invariant-entries : goal.invariant-entries
invariant-entries l =
    (l.self ≡ shown l.yielded ++ pairs_of l.value-iterator)
    × All (λ (pair : List ℕ × ℕ). IsWord pair.1) (shown l.yielded)
