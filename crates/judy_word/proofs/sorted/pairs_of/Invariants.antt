use Rattle.std.proofs.Common.{◌≡◌, take}
use Rattle.judy_word.specs.Sorted.{pairs_in}
use Rattle.judy_word.proofs.sorted.pairs_of.Given as goal

-- the items that were read have pairs
abbrev pub invariant-items : goal.invariant-items
invariant-items g l = l.pairs.items ≡ pairs_in g.K.Keyed.key_of g.K.Keyed.value_of (take l.item-index l.items)
