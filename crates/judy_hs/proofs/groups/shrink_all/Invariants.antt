use Rattle.std.proofs.Common.{◌≡◌}
use Rattle.judy_hs.specs.GroupPlaces.{groups_of, links_of}
use Rattle.judy_hs.specs.Relaid.{AreRelaid}
use Rattle.judy_hs.proofs.groups.shrink_all.Given as goal

-- the groups so far are relaid, and the others are what they were
abbrev pub invariant-loop-place : goal.invariant-loop-place
invariant-loop-place l = record {
  keys : AreRelaid (groups_of l.fn.groups) (groups_of l.groups);
  links : links_of l.groups ≡ links_of l.fn.groups;
}
