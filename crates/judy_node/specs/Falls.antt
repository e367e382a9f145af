-- Each child of a node has a shorter form than the node.
use Rattle.std.specs.Prelude.{◌≡◌, ℕ, ◌+◌, ◌≤◌, max, List, [], ◌∷◌, length, get_or}
use Rattle.std.proofs.Common.{arith, length-append}
use denote.Param.Weighed.{most}
use Rattle.judy_node.specs.Trees.{Tree, forms_in}
use Rattle.judy_node.specs.Kinds.{tree_of, kind_in, IsPlaced}
use Rattle.judy_node.specs.declared.child.ChildOf.TheDeep.{deep-KindOf}
use Rattle.judy_node.specs.declared.child.KindOf.{KindOf}
use Rattle.judy_node.specs.declared.child.PlaceOf.{PlaceOf}
use Rattle.judy_node.specs.declared.child.KindOf.TheVariants.{Imm, Leaf, Bit, Branch}

-- The longest form of the children is no longer than all of them in a row.
pub most_le : (kids : List Tree) → most (λ kid. length kid.form + 1) kids ≤ length (forms_in kids) + 1
most_le [] = omega arith
most_le (kid ∷ kids) = omega (arith, most_le kids, length-append kid.form (forms_in kids))

-- The nodes below a node, by its kind.
falls_in : {V : _} (g : _) (words : ℕ) (kind : KindOf V) → deep-KindOf V g kind ≤ length (tree_of words kind).form
falls_in g words (Imm head word) = omega arith
falls_in g words (Leaf count block) = omega arith
falls_in g words (Bit skipped block) = omega arith
falls_in g words (Branch b) = omega (arith, most_le b.value.children.items)

-- And below the one node of a list of one.
falls_all : {V : _} (g : _) (words : ℕ) (kinds : List (KindOf V)) → length kinds ≡ 1
    → most (λ kind. deep-KindOf V g kind) kinds ≤ length (tree_of words (get_or kinds 0 (Imm 0 0))).form
falls_all g words [] one = absurd (omega (arith, one))
falls_all g words (kind ∷ []) one = omega (arith, falls_in g words kind)
falls_all g words (kind ∷ other ∷ kinds) one = absurd (omega (arith, one))

-- So the nodes below a place have shorter forms than its node.
pub falls : {V : _} (g : _) (words : ℕ) (place : PlaceOf V) → IsPlaced words place
    → max (max (max (most (λ kind. deep-KindOf V g kind) place.kind.items) 0) 0) 0 ≤ length (tree_of words (kind_in place)).form
falls g words place placed = omega (arith, falls_all g words place.kind.items placed.0)
