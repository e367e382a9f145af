use Rattle.std.proofs.Common.{◌≡◌, ◌++◌, take}
use Rattle.std.specs.List.{flat_map}
use Rattle.judy_hs.specs.LongGroups.{chain_at}
use Rattle.judy_hs.specs.Listed.{entries_in}
use Rattle.judy_hs.proofs.long_group.LongGroup.list_places.Given as goal

-- the chains at the places so far are listed
abbrev pub invariant-loop-place : goal.invariant-loop-place
invariant-loop-place l = entries_in l.list.items ≡ entries_in l.fn.list.items ++ flat_map (chain_at l.self) (take l.place-index l.places)
