use Rattle.std.proofs.Common.{◌≡◌, ◌+◌, ◌*◌, ◌-◌, ◌≤◌, ◌++◌, length}
use Rattle.std.specs.Prelude.{codes}
use Rattle.judy_script.proofs.Listings.{listed_of}
use Rattle.judy_script.proofs.print.print_list.Given as goal

-- the arrays before the place are printed, at most 61 bytes each
abbrev pub invariant-arrays : goal.invariant-arrays
invariant-arrays l = record {
  place : l.place ≤ length l.shelf;
  items : l.text ≡ codes "names" ++ listed_of l.place l.shelf;
  len : length l.text ≤ 5 + 61 * l.place;
}

abbrev pub decreases-arrays : goal.decreases-arrays
decreases-arrays l = length l.shelf - l.place
