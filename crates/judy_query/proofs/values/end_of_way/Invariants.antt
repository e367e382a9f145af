use Rattle.std.proofs.Common.{◌+◌, ◌≤◌, length}
use Rattle.judy_node.specs.Trees.{branch_pairs}
use Rattle.judy_node.specs.declared.child.BranchOf.{BranchOf}
use Rattle.judy_node.specs.declared.view.ViewOf.{ViewOf}
use Rattle.judy_node.specs.declared.view.ViewOf.TheVariants.{Branch}
use Rattle.judy_query.specs.Parts.{IsDown, width_of}
use Rattle.judy_query.proofs.values.end_of_way.Given as goal

-- A branch, wherever it stands.
abbrev pub shown : {V : _} → BranchOf V → ViewOf V
shown branch = Branch (record { ref_ptr = (0, 0); now = branch })

abbrev pub invariant-down : goal.invariant-down
invariant-down g l =
    IsDown g.V.Words.WORDS (branch_pairs l.top.width l.top.skip l.top.bytes l.top.children.items) (shown l.branch) l.key l.left
    × (l.meter + width_of (shown l.branch) ≤ l.initial.meter + (length l.top.skip + 1 + l.top.width))
    × (l.initial.meter ≤ l.meter)

abbrev pub decreases-down : goal.decreases-down
decreases-down g l = width_of (shown l.branch)
