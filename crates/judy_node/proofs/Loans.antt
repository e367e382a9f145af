-- What a branch becomes where a child of it is lent.
use Rattle.std.proofs.Common.{◌≡◌, ◌≤◌, ℕ, length, get_or, sym, ap, ◌∙◌}
use Rattle.std.proofs.lemmas.List.{set-get_or, length-set}
use Rattle.std.specs.Vec.{with_item}
use Rattle.std.specs.declared.vec.Vec.{Vec}
use Rattle.judy_node.specs.Trees.{Tree}
use Rattle.judy_node.specs.Roots.{empty_tree}
use Rattle.judy_node.specs.Slots.{with_value}
use Rattle.judy_node.specs.Seats.{with_child, child_at, branch_written}
use Rattle.judy_node.specs.declared.child.BranchOf.{BranchOf}
use mathlib.Core.HLevel.{is_prop→PathP}
use denote.Struct.Props.{props}

-- A list whose element is replaced by itself stays as it is.
vec_back : {X Z : Type 0} (v : Vec X Z) (at : ℕ) (default : X) → with_item v at (get_or v.items at default) ≡ v
vec_back v at default =
    let e = set-get_or v.items at default in
    λ i. record {
      ptr = v.ptr;
      len = v.len;
      cap = v.cap;
      alloc = v.alloc;
      items = e i;
      ok = is_prop→PathP (λ j. (v.len ≡ length (e j)) × (v.len ≤ v.cap)) (λ j. hlevel props) (v.ok.0 ∙ sym (length-set v.items at (get_or v.items at default)), v.ok.1) v.ok i;
      small = v.small;
    }

module _ {V : _} (branch : BranchOf V) (at : ℕ) (child : Tree) (is : child ≡ child_at branch at) where
  pub written : (rest value : ℕ) → with_child branch at (with_value child rest value) ≡ branch_written branch at rest value
  written rest value = ap (λ (held : Tree). with_child branch at (with_value held rest value)) is

  -- A child that is put back leaves the branch as it was.
  pub back : with_child branch at child ≡ branch
  back = ap (with_child branch at) is ∙ (λ i. record branch { children = vec_back branch.children at empty_tree i })
