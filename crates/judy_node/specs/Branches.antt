-- A branch as one value: the tree that it is, and what it keeps.
use Rattle.std.specs.Prelude.{ℕ}
use Rattle.judy_node.specs.Trees.{Tree, IsBranch, branch_tree}
use Rattle.judy_node.specs.declared.child.BranchOf.{BranchOf}

-- A branch as a tree.
abbrev pub tree_below : {V : _} → BranchOf V → Tree
tree_below branch = branch_tree branch.width branch.skip branch.bytes branch.children.items branch.population

-- What every branch keeps.
abbrev pub IsWholeBranch : {V : _} → ℕ → BranchOf V → Type 0
IsWholeBranch words branch = IsBranch words branch.width branch.skip branch.bytes branch.children.items branch.population
