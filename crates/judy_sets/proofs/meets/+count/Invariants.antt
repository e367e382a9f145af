use Rattle.std.proofs.Common.{◌≡◌, ℕ, ◌+◌, ◌-◌, ◌*◌, ◌^◌, ◌<◌, ◌≤◌, length}
use Rattle.judy_model.specs.WordBytes.{number_of}
use Rattle.judy_bits.specs.ByteSets.{rank}
use Rattle.judy_node.specs.Trees.{branch_pairs}
use Rattle.judy_node.specs.Views.{view_pairs}
use Rattle.judy_query.specs.Parts.{width_of}
use Rattle.judy_query.proofs.Splits.{rest_of}
use Rattle.judy_sets.specs.Meets.{found}
use Rattle.judy_sets.proofs.meets.+count.Given as goal

-- each step goes down in the one, or down in the other alone
abbrev pub decreases-count_in : goal.decreases-count_in
decreases-count_in g l = 32 * width_of l.one.now + 1

abbrev pub decreases-count_children : goal.decreases-count_children
decreases-count_children g l = 32 * (length l.branch.now.skip + 1 + l.branch.now.width)

abbrev pub decreases-count_below : goal.decreases-count_below
decreases-count_below g l = 32 * l.width + 2 + width_of l.other.now

abbrev pub invariant-count_children-children : goal.invariant-count_children-children
invariant-count_children-children g l =
    let b = l.branch in
    let left : ℕ → ℕ = λ n. found l.sought.wanted l.by (rest_of (256 ^ b.width) (number_of b.skip * 256) b.bytes b.children.items n) (view_pairs l.other) in
    let all : ℕ = found l.sought.wanted l.by (branch_pairs b.width b.skip b.bytes b.children.items) (view_pairs l.other) in
    record {
      inside : l.place ≤ length b.children.items;
      first : l.place ≡ rank b.bytes l.edge;
      most : l.count + left l.place ≤ all;
      exact : l.count < l.sought.enough → l.count + left l.place ≡ all;
    }

abbrev pub decreases-count_children-children : goal.decreases-count_children-children
decreases-count_children-children g l = length l.branch.children.items - l.place
