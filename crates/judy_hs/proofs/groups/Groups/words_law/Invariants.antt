use Rattle.std.proofs.Common.{ℕ}
use Rattle.std.specs.List.{AllWithin}
use Rattle.judy_hs.specs.Groups.{in_group}
use Rattle.judy_hs.specs.GroupPlaces.{group_of}
use Rattle.judy_hs.specs.Values.{AreWords}
use Rattle.judy_hs.specs.declared.group.GroupPlace.{GroupPlace}
use Rattle.judy_hs.proofs.groups.Groups.words_law.Given as goal

abbrev pub invariant-loop-group : goal.invariant-loop-group
invariant-loop-group l = AllWithin (λ (group : GroupPlace). (part : ℕ) → AreWords (in_group (group_of group) part)) l.group-items 0 l.group-index
