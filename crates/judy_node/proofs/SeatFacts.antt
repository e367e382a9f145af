-- Where the value of a key stands in a node of each kind, and the node with another value there.
use Rattle.std.proofs.Common.{◌≡◌, ◌≢◌, ℕ, zero, suc, ◌+◌, ◌*◌, ◌-◌, ◌^◌, ◌<◌, ◌≤◌, cond, List, [], ◌∷◌, length, get_or, set, slice_get, Some, None, sym, refl, ap, ◌∙◌, subst, arith}
use Rattle.std.proofs.lemmas.Bool.{eq-eqb}
use Rattle.std.proofs.lemmas.Option.{slice_get_within}
use Rattle.judy_model.specs.WordBytes.{number_of, low_bytes}
use Rattle.judy_model.specs.Forms.{immediate, leaf, bitmap_leaf, branch}
use Rattle.judy_bits.specs.ByteSets.{place}
use Rattle.judy_block.specs.Contents.{Contents}
use Rattle.judy_leaf.specs.KeyLists.{keys_of, shift, valued}
use Rattle.judy_leaf.specs.Leaves.{leaf_list}
use Rattle.judy_leaf.specs.BitLeaves.{bit_list}
use Rattle.judy_leaf.proofs.LeafLists.{leaf_length, leaf_value, value_inside}
use Rattle.judy_leaf.proofs.BitLists.{bit_value, bit_value_inside}
use Rattle.judy_leaf.proofs.SlotSteps.{leaf_valued, bit_valued, bit_written}
use Rattle.judy_node.specs.Trees.{Tree, IsChild, IsBranch, branch_pairs}
use Rattle.judy_node.specs.Roots.{empty_tree}
use Rattle.judy_node.specs.Kinds.{kind_in, leaf_tree, IsLeaf, bit_width, bit_tree, IsBit, tree_of, IsLevel}
use Rattle.judy_node.specs.Steps.{IsStep}
use Rattle.judy_node.specs.Slots.{value_of, written, with_value}
use Rattle.judy_node.specs.Seats.{placed, IsSeat, kind_written, value_at, HasSeat}
use Rattle.judy_node.specs.declared.step.Step.TheVariants.{Missing, Below, Above}
use Rattle.judy_node.specs.declared.child.KindOf.{KindOf}
use Rattle.judy_node.specs.declared.child.PlaceOf.{PlaceOf}
use Rattle.judy_node.specs.declared.child.KindOf.TheVariants.{Imm, Leaf, Bit, Branch}
use Rattle.judy_node.proofs.SumFacts.{sums-same}
use Rattle.judy_node.proofs.Maps.{map-shift, map-length, join-map, length-keys_of}
use Rattle.judy_node.proofs.Leaves.{leaf_map, bit_map}
use Rattle.judy_node.proofs.StepFacts.{absent_place}
use Rattle.judy_node.proofs.SlotFacts.{place-there, value-shift, value-low, value-high, value-has, value-there, written-shift, written-there, written-keys, written-length}
use Rattle.judy_node.proofs.SlotFacts.{join-value, join-absent, join-written, children-written, forms-written, children-there, child-there}

-- ---- no place

pub leaf-none : (words count key : ℕ) (block : Contents) → None ≡ place (keys_of (leaf_list words count block).pairs) key → value_of key (leaf_tree words count block).pairs ≡ None
leaf-none words count key block none = value-has key (leaf_list words count block).pairs (absent_place (keys_of (leaf_list words count block).pairs) key (sym none))

pub bit-below : (words skipped key : ℕ) (block : Contents) → key < skipped * 256 → value_of key (bit_tree words skipped block).pairs ≡ None
bit-below words skipped key block below =
    value-low words (skipped * 256 + 0) (skipped * 256 + 256) key (shift (skipped * 256) (bit_list words block).pairs)
    (map-shift words 0 256 (skipped * 256) (bit_list words block).pairs (bit_map words block)) (omega arith)

pub bit-none : (words skipped key low : ℕ) (block : Contents) → key ≡ skipped * 256 + low → None ≡ place (keys_of (bit_list words block).pairs) low →
    value_of key (bit_tree words skipped block).pairs ≡ None
bit-none words skipped key low block is none =
    let pairs = (bit_list words block).pairs in
    ap (λ k. value_of k (shift (skipped * 256) pairs)) is ∙ value-shift (skipped * 256) low pairs ∙ value-has low pairs (absent_place (keys_of pairs) low (sym none))

module _ (words width : ℕ) (skipped bytes : List ℕ) (kids : List Tree) (count key : ℕ) (is : IsBranch words width skipped bytes kids count) where
  pub branch-missing : (byte at rest : ℕ) → IsStep (256 ^ width) (number_of skipped * 256) bytes key (Missing byte at rest) → value_of key (branch_pairs width skipped bytes kids) ≡ None
  branch-missing byte at rest step =
      ap (λ k. value_of k (branch_pairs width skipped bytes kids)) step.0.key_is
      ∙ join-absent words width 0 (number_of skipped * 256) byte rest bytes kids is.parts.children step.1 step.0.byte_is step.0.rest_is

  pub branch-below : IsStep (256 ^ width) (number_of skipped * 256) bytes key Below → value_of key (branch_pairs width skipped bytes kids) ≡ None
  branch-below below =
      value-low words ((number_of skipped * 256 + 0) * 256 ^ width) ((number_of skipped * 256 + 256) * 256 ^ width) key (branch_pairs width skipped bytes kids)
      (join-map words width 0 (number_of skipped * 256) bytes kids (omega arith) is.parts.children) (subst (λ n. key < n * 256 ^ width)
      (let e : number_of skipped * 256 ≡ number_of skipped * 256 + 0 = omega arith in e) below)

  pub branch-above : IsStep (256 ^ width) (number_of skipped * 256) bytes key Above → value_of key (branch_pairs width skipped bytes kids) ≡ None
  branch-above above =
      value-high words ((number_of skipped * 256 + 0) * 256 ^ width) ((number_of skipped * 256 + 256) * 256 ^ width) key (branch_pairs width skipped bytes kids)
      (join-map words width 0 (number_of skipped * 256) bytes kids (omega arith) is.parts.children) above

-- ---- another value at a place

leaf_within : (words count key at : ℕ) (block : Contents) → IsLeaf words count block → slice_get (keys_of (leaf_list words count block).pairs) at ≡ Some key → at < count
leaf_within words count key at block level there =
    let inside = slice_get_within (keys_of (leaf_list words count block).pairs) at key there in
    let long = length-keys_of (leaf_list words count block).pairs in
    let all = leaf_length words count block level.parts in
    omega arith

bit_within : (words low place : ℕ) (block : Contents) → slice_get (keys_of (bit_list words block).pairs) place ≡ Some low → place < length (bit_list words block).pairs
bit_within words low place block there =
    let inside = slice_get_within (keys_of (bit_list words block).pairs) place low there in
    let long = length-keys_of (bit_list words block).pairs in
    omega arith

pub kind-level : {V : _} (words : ℕ) (kind : KindOf V) (key at rest value : ℕ) → words ≡ 1 → IsLevel words kind → IsSeat words kind key at rest → IsLevel words (kind_written kind at rest value)
kind-level zero (Imm head word) key at rest value one level seat = let never : ⊥ = omega arith in absurd never
kind-level (suc words) (Imm head word) key at rest value one level seat = level
kind-level words (Leaf count block) key at rest value one level seat =
    record { parts = (leaf_valued words count at value block level.parts one (leaf_within words count key at block level seat)).0; more = level.more }
kind-level words (Bit skipped block) key at rest value one level seat =
    let place = seat.0 in
    let low = seat.1 in
    let list = bit_list words block in
    let inside = bit_within words low place block seat.4 in
    let same = bit_written words place value block level.parts list refl one inside in
    let many = ap (λ l. length l.pairs) same in
    subst (λ n. IsBit words skipped (record block { words = set block.words n value })) (sym seat.2)
    (record {
      parts = bit_valued words place value block level.parts list refl one inside;
      some = subst (λ n. 1 ≤ n) (sym (many ∙ valued-length place list.pairs value)) level.some;
      skips = level.skips;
    })
  where
    valued-length : (at : ℕ) (pairs : List (ℕ × ℕ)) (value : ℕ) → length (valued at pairs value) ≡ length pairs
    valued-length at [] value = refl
    valued-length zero (pair ∷ pairs) value = refl
    valued-length (suc at) (pair ∷ pairs) value = ap suc (valued-length at pairs value)
kind-level words (Branch b) key at rest value one level seat =
    let branch = b.value in
    let parts = level.0.parts in
    let kids = branch.children.items in
    let written_pairs = join-written words branch.width 0 (number_of branch.skip * 256) at seat.0 rest value branch.bytes kids empty_tree parts.children seat.2 seat.1.rest_is in (
      record {
        parts = record {
          some_width = parts.some_width;
          within = parts.within;
          skipped_bytes = parts.skipped_bytes;
          children = children-written words branch.width 0 at rest value branch.bytes kids empty_tree one parts.children;
          counted =
              parts.counted ∙ sym (ap length written_pairs ∙ written-length ((number_of branch.skip * 256 + seat.0) * 256 ^ branch.width + rest) value
              (branch_pairs branch.width branch.skip branch.bytes kids));
        };
        holds = level.0.holds;
      },
      sums-same branch.sums kids at (with_value (get_or kids at empty_tree) rest value) empty_tree (children-there words branch.width 0 at seat.0 branch.bytes kids parts.children seat.2)
          (written-length rest value (get_or kids at empty_tree).pairs) level.1,
    )

pub kind-tree : {V : _} (words : ℕ) (kind : KindOf V) (key at rest value : ℕ) → words ≡ 1 → IsLevel words kind → IsSeat words kind key at rest →
    tree_of words (kind_written kind at rest value) ≡ with_value (tree_of words kind) key value
kind-tree zero (Imm head word) key at rest value one level seat = let never : ⊥ = omega arith in absurd never
kind-tree (suc words) (Imm head word) key at rest value one level seat =
    λ t. record { width = 0; pairs = (head, cond (sym (eq-eqb head key (sym seat)) t) value word) ∷ []; form = immediate (head ∷ []) ∷ [] }
kind-tree words (Leaf count block) key at rest value one level seat =
    let pairs = (leaf_list words count block).pairs in
    let same = ap (λ l. l.pairs) (leaf_valued words count at value block level.parts one (leaf_within words count key at block level seat)).1 ∙
    written-there words 0 (256 ^ block.tag) at key value pairs (leaf_map words count block level.parts) seat in
    let keys = ap keys_of same ∙ written-keys key value pairs in
    λ t. record { width = block.tag; pairs = same t; form = leaf (keys t) ∷ [] }
kind-tree words (Bit skipped block) key at rest value one level seat =
    let place = seat.0 in
    let low = seat.1 in
    let list = bit_list words block in
    let front = skipped * 256 in
    let new = record block { words = set block.words (4 + place) value } in
    let inner : (bit_list words new).pairs ≡ written low value list.pairs =
    ap (λ l. l.pairs) (bit_written words place value block level.parts list refl one (bit_within words low place block seat.4)) ∙
    written-there words 0 256 place low value list.pairs (bit_map words block) seat.4 in
    let same = ap (shift front) inner ∙ sym (written-shift front low value list.pairs) ∙ ap (λ k. written k value (shift front list.pairs)) (sym seat.3) in
    let keys = ap keys_of inner ∙ written-keys low value list.pairs in
    ap (λ n. bit_tree words skipped (record block { words = set block.words n value })) seat.2
    ∙ λ t. record { width = bit_width block; pairs = same t; form = bitmap_leaf (low_bytes (bit_width block - 1) skipped) (keys t) ∷ [] }
kind-tree words (Branch b) key at rest value one level seat =
    let node = b.value in
    let kids = node.children.items in
    let same = join-written words node.width 0 (number_of node.skip * 256) at seat.0 rest value node.bytes kids empty_tree level.0.parts.children seat.2 seat.1.rest_is
    ∙ ap (λ k. written k value (branch_pairs node.width node.skip node.bytes kids)) (sym seat.1.key_is) in
    λ t. record { width = length node.skip + 1 + node.width; pairs = same t; form = branch node.skip node.bytes node.population ∷ forms-written at rest value kids empty_tree t }

-- ---- the value at a place

pub kind-value : {V : _} (words : ℕ) (kind : KindOf V) (key at rest : ℕ) → words ≡ 1 → IsLevel words kind → IsSeat words kind key at rest →
    value_at kind at rest ≡ value_of key (tree_of words kind).pairs
kind-value zero (Imm head word) key at rest one level seat = let never : ⊥ = omega arith in absurd never
kind-value (suc words) (Imm head word) key at rest one level seat = ap (λ b. cond b (Some word) None) (sym (eq-eqb head key (sym seat)))
kind-value words (Leaf count block) key at rest one level seat =
    ap Some (leaf_value words count block level.parts at (leaf_within words count key at block level seat) one)
    ∙ sym (value-there words 0 (256 ^ block.tag) at key (leaf_list words count block).pairs (leaf_map words count block level.parts) seat)
kind-value words (Bit skipped block) key at rest one level seat =
    let place = seat.0 in
    let low = seat.1 in
    let list = bit_list words block in
    ap (λ n. Some (get_or block.words n 0)) seat.2
    ∙ ap Some (bit_value words block level.parts list refl place (get_or block.words (4 + place) 0) (bit_within words low place block seat.4) one refl)
    ∙ sym (value-there words 0 256 place low list.pairs (bit_map words block) seat.4)
    ∙ sym (ap (λ k. value_of k (shift (skipped * 256) list.pairs)) seat.3 ∙ value-shift (skipped * 256) low list.pairs)
kind-value words (Branch b) key at rest one level seat =
    let node = b.value in
    let kids = node.children.items in
    sym (ap (λ k. value_of k (branch_pairs node.width node.skip node.bytes kids)) seat.1.key_is
    ∙ join-value words node.width 0 (number_of node.skip * 256) at seat.0 rest node.bytes kids empty_tree level.0.parts.children seat.2 seat.1.rest_is)

-- A child's width, where it is told.
pub child-narrow : (words width : ℕ) (tree : Tree) → IsChild words width tree → tree.width ≤ width
child-narrow words width tree is = told tree.width is.wide
  where
    told : (n : ℕ) → (n ≢ 0 → n ≡ width) → n ≤ width
    told zero wide = omega arith
    told (suc n) wide = let same = wide (λ (none : suc n ≡ 0). let never : ⊥ = omega arith in never) in omega arith

-- The place is one.
pub kind-seat : {V : _} (words depth : ℕ) (kind : KindOf V) (key at rest : ℕ) → words ≡ 1 → IsLevel words kind → IsSeat words kind key at rest
    → ((tree_of words kind).width ≤ depth + 1) → HasSeat words depth kind at
kind-seat words depth (Imm head word) key at rest one level seat short = tt
kind-seat words depth (Leaf count block) key at rest one level seat short =
    let all = leaf_length words count block level.parts in
    let inside = leaf_within words count key at block level seat in
    value_inside words count block level.parts (leaf_list words count block) refl at (omega arith) one
kind-seat words depth (Bit skipped block) key at rest one level seat short =
    subst (λ n. n < length block.words) (sym seat.2) (bit_value_inside words block level.parts (bit_list words block) refl seat.0 (bit_within words seat.1 seat.0 block seat.4) one)
kind-seat words depth (Branch b) key at rest one level seat short =
    let node = b.value in
    let kids = node.children.items in (
      children-there words node.width 0 at seat.0 node.bytes kids level.0.parts.children seat.2,
      child-there words node.width 0 at seat.0 node.bytes kids empty_tree level.0.parts.children seat.2,
      omega arith,
    )

-- ---- places that are found

pub leaf-seat : (words count key at : ℕ) (block : Contents) → IsLeaf words count block → Some at ≡ place (keys_of (leaf_list words count block).pairs) key →
    slice_get (keys_of (leaf_list words count block).pairs) at ≡ Some key
leaf-seat words count key at block level found = place-there words 0 (256 ^ block.tag) at key (leaf_list words count block).pairs (leaf_map words count block level.parts) (sym found)

pub bit-seat : (words low at : ℕ) (block : Contents) → Some at ≡ place (keys_of (bit_list words block).pairs) low → (slice_get (keys_of (bit_list words block).pairs) at ≡ Some low) × (at < 256)
bit-seat words low at block found =
    let there = place-there words 0 256 at low (bit_list words block).pairs (bit_map words block) (sym found) in
    let inside = bit_within words low at block there in
    let most = map-length words 0 256 (bit_list words block).pairs (omega arith) (bit_map words block) in
    (there, omega arith)

-- What a node keeps is kept by its kind that is lent.
pub lent_kind : {V : _} (words : ℕ) {place : PlaceOf V} {kind : KindOf V} {tree : Tree} → placed kind ≡ place → IsLevel words (kind_in place) →
    tree_of words (kind_in place) ≡ tree → IsLevel words kind × (tree_of words kind ≡ tree)
lent_kind words same level seen = let is = ap kind_in same in (subst (IsLevel words) (sym is) level, ap (tree_of words) is ∙ seen)
