use Rattle.std.proofs.Common.{◌≡◌, length, map, take, is_some}
use Rattle.judy_word.proofs.tree_array.TreeArray.has_few.Given as goal

abbrev pub invariant-there : goal.invariant-there
invariant-there g l = (take l.at l.there ≡ map is_some (take l.at l.values)) × (length l.there ≡ length l.initial.there)
