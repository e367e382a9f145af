use Rattle.std.proofs.Common.{◌≡◌, length, map, take}
use Rattle.judy_c.specs.Looks.{byte_of}
use Rattle.judy_c.proofs.looks.Judy1AsksMany.tell_group.Given as goal

abbrev pub invariant-told : goal.invariant-told
invariant-told l = (take l.at l.told ≡ map byte_of (take l.at l.there)) × (length l.told ≡ length l.initial.told)
