use Rattle.std.proofs.Common.{◌-◌, ◌≤◌, length}
use Rattle.std.specs.List.{AllWithin}
use Rattle.judy_shelf.proofs.StoreLemmas.{IsNamedArray}
use Rattle.judy_shelf.proofs.shelf.Shelf.store_law.Given as goal

-- the arrays before the place were read
abbrev pub invariant-arrays : goal.invariant-arrays
invariant-arrays l = record { place : l.place ≤ length l.self; read : AllWithin IsNamedArray l.self 0 l.place }

abbrev pub decreases-arrays : goal.decreases-arrays
decreases-arrays l = length l.self - l.place
