use Rattle.std.proofs.Common.{◌≡◌, ◌+◌, ◌-◌, ◌≤◌, length, drop}
use Rattle.std.specs.Prelude.{bytes_eq}
use Rattle.judy_shelf.specs.Places.{place_of}
use Rattle.judy_shelf.proofs.shelf.Shelf.place_of.Given as goal

-- none of the arrays before the place has the name
abbrev pub invariant-arrays : goal.invariant-arrays
invariant-arrays l = record {
  within : l.place ≤ length l.self;
  before : l.place + place_of (bytes_eq l.bytes) (drop l.place l.self) ≡ place_of (bytes_eq l.bytes) l.self;
}

abbrev pub decreases-arrays : goal.decreases-arrays
decreases-arrays l = length l.self - l.place
