use Rattle.std.proofs.Common.{◌≡◌, ◌++◌}
use Rattle.std.specs.List.{flat_map}
use Rattle.std.specs.FinMap.{entries}
use Rattle.judy_hs.specs.Listed.{entries_in}
use Rattle.judy_hs.proofs.WalkLemmas.{spelled}
use Rattle.judy_hs.proofs.group.list_words.Given as goal

-- the entries that came are listed
abbrev pub invariant-words : goal.invariant-words
invariant-words l =
    (entries l.words.map ≡ l.yielded ++ l.word-iterator) × (entries_in l.list.items ≡ entries_in l.fn.list.items ++ flat_map (spelled l.key_length) l.yielded)
