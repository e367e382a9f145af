use Rattle.std.proofs.Common.{◌≡◌, length, map, take}
use Rattle.judy_c.specs.Looks.{found_of}
use Rattle.judy_c.proofs.looks.JudyLAsksMany.tell_group.Given as goal

abbrev pub invariant-told : goal.invariant-told
invariant-told l = (take l.at l.told ≡ map found_of (take l.at l.values)) × (length l.told ≡ length l.initial.told)
