use Rattle.std.proofs.Common.{◌≡◌, Some, IfSome}
use Rattle.std.specs.FinMap.{get}
use Rattle.std.specs.Option.{option_map}
use Rattle.judy_word.specs.Held.{map_in}
use Rattle.judy_word.proofs.SeenWords.{Seen, left_from}
use Rattle.judy_word.proofs.tree_array.TreeArray.array_law.Given as goal

abbrev pub invariant-keys : goal.invariant-keys
invariant-keys g l = Seen (map_in l.self) (option_map (λ entry. entry.0) l.found) × IfSome l.found (λ entry. get (map_in l.self) entry.0 ≡ Some entry.1)

abbrev pub decreases-keys : goal.decreases-keys
decreases-keys g l = left_from (option_map (λ entry. entry.0) l.found)
