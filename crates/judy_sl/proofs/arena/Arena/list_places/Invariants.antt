-- The lists of the places before are right, and so many are left.
use Rattle.std.proofs.Common.{◌≡◌, true, drop, length}
use Rattle.judy_sl.specs.Arenas.{world_of}
use Rattle.judy_sl.specs.Listed.{AreListedBut, AreBegun}
use Rattle.judy_sl.proofs.arena.Arena.list_places.Given as goal

abbrev pub invariant-places : goal.invariant-places
invariant-places l =
    (l.left ≡ length (drop l.at-index l.places))
    × AreListedBut l.comes l.self l.lists (drop l.at-index l.places) l.rest
    × (l.comes ≡ true → AreBegun (world_of l.self) (drop l.at-index l.places) l.rest l.beside)
