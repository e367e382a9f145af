use Rattle.std.proofs.Common.{◌≡◌, ◌++◌}
use Rattle.judy_hs.specs.ChainEntries.{pairs_of}
use Rattle.judy_hs.specs.Listed.{entries_in}
use Rattle.judy_hs.proofs.ChainEntryLemmas.{shown}
use Rattle.judy_hs.proofs.chain.Chain.list.Given as goal

-- the entries that came are listed
abbrev pub invariant-entries : goal.invariant-entries
invariant-entries l =
    (l.self ≡ shown l.yielded ++ pairs_of l.key-iterator)
    × (entries_in l.list.items ≡ entries_in l.fn.list.items ++ shown l.yielded)
