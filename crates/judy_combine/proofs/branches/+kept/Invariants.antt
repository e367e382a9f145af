use Rattle.std.proofs.Common.{◌≡◌, ◌+◌, ◌-◌, ◌*◌, ◌%◌, ◌^◌, ◌≤◌}
use Rattle.judy_model.specs.WordBytes.{number_of}
use Rattle.judy_node.specs.Populations.{population}
use Rattle.judy_combine.specs.Kept.{pairs_of, width_of, AreKeptTo}
use Rattle.judy_combine.proofs.branches.+kept.Given as goal

-- each round goes down a level
abbrev pub decreases-node_kept : goal.decreases-node_kept
decreases-node_kept g l = 8 * l.width + 4

abbrev pub decreases-settled_kept : goal.decreases-settled_kept
decreases-settled_kept g l = 8 * l.width + 3

abbrev pub decreases-branch_kept : goal.decreases-branch_kept
decreases-branch_kept g l = 8 * width_of l.one.now + 2

abbrev pub decreases-add_all : goal.decreases-add_all
decreases-add_all g l = 8 * width_of l.one.now + 1

abbrev pub decreases-kept_at : goal.decreases-kept_at
decreases-kept_at g l = 8 * width_of l.one.now

abbrev pub invariant-add_all-bytes : goal.invariant-add_all-bytes
invariant-add_all-bytes g l = record {
  inside : l.from ≤ 256;
  to : AreKeptTo g.V.Words.WORDS l.one.width (number_of l.one.skip * 256) l.keep (pairs_of l.one) (pairs_of l.other) l.bytes l.children.items l.from;
  counted : l.count ≡ population l.children.items % 2 ^ 64;
}

abbrev pub decreases-add_all-bytes : goal.decreases-add_all-bytes
decreases-add_all-bytes g l = 256 - l.from
