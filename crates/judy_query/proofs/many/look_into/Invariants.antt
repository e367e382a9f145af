use Rattle.std.proofs.Common.{◌≡◌, length, map, take}
use Rattle.judy_query.specs.Ends.{value_at}
use Rattle.judy_query.proofs.many.look_into.Given as goal

abbrev pub invariant-ends : goal.invariant-ends
invariant-ends g l = (take l.at l.values ≡ map value_at (take l.at l.ends)) × (length l.values ≡ length l.initial.values)
