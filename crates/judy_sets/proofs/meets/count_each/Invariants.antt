use Rattle.std.proofs.Common.{◌≡◌, ◌≤◌, take}
use Rattle.judy_node.specs.Views.{view_pairs}
use Rattle.judy_sets.specs.Meets.{found}
use Rattle.judy_sets.proofs.meets.count_each.Given as goal

-- those of the first keys were counted
abbrev pub invariant-keys : goal.invariant-keys
invariant-keys g l = record {
  few : l.count ≤ l.at;
  counted : l.count ≡ found l.wanted l.by (take l.at (view_pairs l.one)) (view_pairs l.other);
}
