use Rattle.std.proofs.Common.{◌≡◌, ◌++◌}
use Rattle.std.specs.List.{flat_map}
use Rattle.std.specs.FinMap.{entries}
use Rattle.judy_hs.specs.Keyed.{group_at}
use Rattle.judy_hs.specs.Listed.{entries_in, group_list}
use Rattle.judy_hs.proofs.groups.Groups.list.Given as goal

-- the groups of the lengths that came are listed
abbrev pub invariant-lengths : goal.invariant-lengths
invariant-lengths l =
    (entries l.self.lengths.map ≡ l.yielded ++ l.key_length-iterator)
    × (entries_in l.list.items ≡ entries_in l.fn.list.items ++ flat_map (λ entry. group_list entry.0 (group_at l.self entry.1)) l.yielded)
