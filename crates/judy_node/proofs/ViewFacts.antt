-- What a child's view shows.
use Rattle.std.proofs.Common.{◌≡◌, ℕ, zero, suc, ◌-◌, ◌/◌, ◌%◌, ◌^◌, ◌<◌, [], ◌∷◌, sym, refl, ap, subst, arith}
use Rattle.judy_model.specs.Forms.{bitmap_leaf}
use Rattle.judy_model.specs.WordBytes.{low_bytes}
use Rattle.judy_block.specs.Contents.{Contents}
use Rattle.judy_leaf.specs.KeyLists.{KeyList, keys_of}
use Rattle.judy_leaf.specs.BitLeaves.{bit_list}
use Rattle.judy_leaf.specs.Packing.{IsWidth}
use Rattle.judy_leaf.specs.Immediates.{parts_list, IsImmParts}
use Rattle.judy_node.specs.Trees.{Tree, IsChild}
use Rattle.judy_node.specs.Kinds.{imm_pairs, imm_tree, IsImm, bit_width, bit_tree, IsBit}
use Rattle.judy_node.specs.Views.{IsView}
use Rattle.judy_node.specs.declared.view.ViewOf.TheVariants.{BitLeaf}
use Rattle.judy_node.proofs.Leaves.{bit_map, imm_width_fits, imm_pair, imm_parts_one}

-- An immediate without values that stands at a width has it in its head.
pub head_width : (width head word : ℕ) → IsImm 0 head word → IsChild 0 width (imm_tree 0 head word) → head / 256 ≡ width
head_width width head word level child =
    let fits = imm_width_fits (head / 256) (head % 256) word level in
    let low = fits.0 in
    child.wide (λ (none : head / 256 ≡ 0). let never : ⊥ = omega arith in never)

-- The key of one with a value fits the width.
one_fits : (words width head word : ℕ) → IsChild (suc words) width (imm_tree (suc words) head word) → IsWidth width × (head < 256 ^ width)
one_fits words width head word child = (record { some = child.low_width; most = child.high_width }, child.map.1)

-- The immediate of the words of a node, where keys have a value.
pub one_parts : (words width head word : ℕ) → (words ≡ 0 → ⊥) → IsImm words head word → IsChild words width (imm_tree words head word)
    → IsImmParts words width head word × (parts_list words width head word ≡ record { width = width; pairs = imm_pairs words head word })
one_parts zero width head word some level child = absurd (some refl)
one_parts (suc words) width head word some level child =
    let fits = one_fits words width head word child in
    (imm_parts_one words width head word level fits.0 fits.1, imm_pair words width head word level fits.0 fits.1)

pub bit_view : {V : _} (words width skipped : ℕ) (block : Contents) (tree : Tree) (list : KeyList) (number : ℕ) → IsBit words skipped block →
    bit_tree words skipped block ≡ tree → IsChild words width tree
    → list ≡ bit_list words block → number ≡ skipped → IsView {V = V} words width tree (BitLeaf number list)
bit_view {V = V} words width skipped block tree list number level is child of same =
    let inner : IsChild words width (bit_tree words skipped block) = subst (IsChild words width) (sym is) child in
    let low = level.parts.some in
    let is_width : bit_width block ≡ width = inner.wide (λ (none : bit_width block ≡ 0). let never : ⊥ = omega arith in never) in
    subst (λ l. IsView {V = V} words width tree (BitLeaf number l)) (sym of)
    (subst (λ n. IsView {V = V} words width tree (BitLeaf n (bit_list words block))) (sym same)
    (subst (λ t. IsView {V = V} words width t (BitLeaf skipped (bit_list words block))) is
    (record {
      pairs = refl;
      form = ap (λ w. bitmap_leaf (low_bytes (w - 1) skipped) (keys_of (bit_list words block).pairs) ∷ []) is_width;
      map = inner.map;
      place = (is_width, subst (λ w. skipped < 256 ^ (w - 1)) is_width level.skips, bit_map words block);
    })))
