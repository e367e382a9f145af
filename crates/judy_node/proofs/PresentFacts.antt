-- Where a key that is there stands in a node of each kind, without a look at the bytes that the node skips.
use Rattle.std.proofs.Common.{◌≡◌, ℕ, zero, suc, ◌+◌, ◌-◌, ◌*◌, ◌/◌, ◌%◌, ◌^◌, ◌<◌, ◌≤◌, true, false, cond, List, [], ◌∷◌, length, is_some, slice_get, Some, None, sym, refl, ap}
use Rattle.std.proofs.Common.{◌∙◌, ⊎_elim, arith, true≢false}
use Rattle.std.proofs.lemmas.Bool.{cases_order}
use Rattle.std.proofs.lemmas.Nat.{div-add-mod', mul-le}
use Rattle.std.proofs.lemmas.Option.{same_Some, slice_get_within}
use Rattle.judy_model.specs.WordBytes.{number_of}
use Rattle.judy_model.proofs.lemmas.orders.ByteLemmas.{unit_pos}
use Rattle.judy_bits.specs.ByteSets.{has, place, rank}
use Rattle.judy_bits.proofs.SetLemmas.{slice_get-rank}
use Rattle.judy_block.specs.Contents.{Contents}
use Rattle.judy_leaf.specs.KeyLists.{keys_of, shift}
use Rattle.judy_leaf.specs.Leaves.{leaf_list}
use Rattle.judy_leaf.specs.BitLeaves.{bit_list}
use Rattle.judy_node.specs.Trees.{Pairs, Tree, IsMap, IsBranch, branch_pairs}
use Rattle.judy_node.specs.Kinds.{leaf_tree, IsLeaf, bit_tree}
use Rattle.judy_node.specs.Steps.{IsKeyOf}
use Rattle.judy_node.specs.Slots.{value_of}
use Rattle.judy_node.proofs.Maps.{map-length, length-keys_of}
use Rattle.judy_node.proofs.Leaves.{map_ascends, leaf_map, bit_map}
use Rattle.judy_node.proofs.StepFacts.{below_block, key_of}
use Rattle.judy_node.proofs.SlotFacts.{value-shift, value-high, value-has}
use Rattle.judy_node.proofs.SeatFacts.{bit-below, branch-missing, branch-below, branch-above}

-- What has a value isn't none.
not_none : (key : ℕ) (pairs : Pairs) → is_some (value_of key pairs) ≡ true → value_of key pairs ≡ None → ⊥
not_none key pairs some none = true≢false (sym some ∙ ap is_some none)

key-has : (key : ℕ) (pairs : Pairs) → is_some (value_of key pairs) ≡ true → has (keys_of pairs) key ≡ true
key-has key pairs some =
    elim (has (keys_of pairs) key) as (λ b. has (keys_of pairs) key ≡ b → b ≡ true) [
      | true ↦ λ _. refl
      | false ↦ λ absent. absurd (not_none key pairs some (value-has key pairs absent))
    ] refl

pub member-place : (members : List ℕ) (byte : ℕ) → has members byte ≡ true → place members byte ≡ Some (rank members byte)
member-place members byte held = ap (λ b. cond b (Some (rank members byte)) None) held

-- In a leaf a key stands at its rank.
pub leaf-there : (words count key : ℕ) (block : Contents) → IsLeaf words count block → is_some (value_of key (leaf_tree words count block).pairs) ≡ true
    → slice_get (keys_of (leaf_list words count block).pairs) (rank (keys_of (leaf_list words count block).pairs) key) ≡ Some key
leaf-there words count key block level some =
    let pairs = (leaf_list words count block).pairs in
    slice_get-rank (keys_of pairs) (map_ascends words 0 (256 ^ block.tag) pairs (leaf_map words count block level.parts)) key (key-has key pairs some)

-- Where all 256 keys of a bitmap leaf stand, a key is its place.
every_key : (words low at : ℕ) (pairs : Pairs) → IsMap words low 256 pairs → low + length pairs ≡ 256 → at < length pairs → slice_get (keys_of pairs) at ≡ Some (low + at)
every_key words low at [] map all within = let never : ⊥ = omega arith in absurd never
every_key words low zero (pair ∷ pairs) map all within =
    let first = map.0 in
    let last = map.1 in
    let rest = map-length words (pair.0 + 1) 256 pairs (omega arith) map.3 in
    ap Some (let e : pair.0 ≡ low + 0 = omega arith in e)
every_key words low (suc at) (pair ∷ pairs) map all within =
    let first = map.0 in
    let last = map.1 in
    let rest = map-length words (pair.0 + 1) 256 pairs (omega arith) map.3 in
    every_key words (pair.0 + 1) at pairs map.3 (omega arith) (omega arith) ∙ ap Some (let e : pair.0 + 1 + at ≡ low + suc at = omega arith in e)

pub full-place : (words key : ℕ) (block : Contents) → length (bit_list words block).pairs ≡ 256 → has (keys_of (bit_list words block).pairs) key ≡ true
    → place (keys_of (bit_list words block).pairs) key ≡ Some key
full-place words key block all held =
    let pairs = (bit_list words block).pairs in
    let keys = keys_of pairs in
    let ascend = map_ascends words 0 256 pairs (bit_map words block) in
    let stands = slice_get-rank keys ascend key held in
    let inside = slice_get_within keys (rank keys key) key stands in
    let long = length-keys_of pairs in
    let byte = same_Some (0 + rank keys key) key (sym (every_key words 0 (rank keys key) pairs (bit_map words block) (omega arith) (omega arith)) ∙ stands) in
    member-place keys key held ∙ ap Some (omega arith)

-- In a bitmap leaf it is the skipped bytes and its last byte, which is a member.
pub bit-there : (words skipped key : ℕ) (block : Contents) → is_some (value_of key (bit_tree words skipped block).pairs) ≡ true
    → (key ≡ skipped * 256 + key % 256) × (has (keys_of (bit_list words block).pairs) (key % 256) ≡ true)
bit-there words skipped key block some =
    let pairs = (bit_list words block).pairs in
    let front = skipped * 256 in
    let low = key - front in
    let from : front ≤ key = ⊎_elim
    (λ (same : key ≡ front). omega arith)
    (λ apart. ⊎_elim (λ (less : key < front). absurd (not_none key (shift front pairs) some (bit-below words skipped key block less))) (λ more. omega arith) apart)
    (cases_order key front) in
    let value = ap (λ k. value_of k (shift front pairs)) (let e : key ≡ front + low = omega arith in e) ∙ value-shift front low pairs in
    let few : 256 ≤ low → ⊥ = λ high. not_none key (shift front pairs) some (value ∙ value-high words 0 256 low pairs (bit_map words block) high) in
    let below : low < 256 = ⊎_elim
    (λ (same : low ≡ 256). absurd (few (omega arith)))
    (λ apart. ⊎_elim (λ less. less) (λ (more : 256 < low). absurd (few (omega arith))) apart)
    (cases_order low 256) in
    let same : low ≡ key % 256 = omega arith in
    (omega arith, key-has (key % 256) pairs (ap (λ n. is_some (value_of n pairs)) (sym same) ∙ ap is_some (sym value) ∙ some))

module _ (words width : ℕ) (skipped bytes : List ℕ) (kids : List Tree) (count key : ℕ) (is : IsBranch words width skipped bytes kids count)
    (some : is_some (value_of key (branch_pairs width skipped bytes kids)) ≡ true) where
  absent : value_of key (branch_pairs width skipped bytes kids) ≡ None → ⊥
  absent = not_none key (branch_pairs width skipped bytes kids) some

  -- Below a branch it begins with the skipped bytes.
  pub branch-there : IsKeyOf (256 ^ width) (number_of skipped * 256) key (key / 256 ^ width % 256) (key % 256 ^ width)
  branch-there =
      let unit = 256 ^ width in
      let block = key / unit in
      let front = number_of skipped * 256 in
      let from : front ≤ block = ⊎_elim
      (λ (same : block ≡ front). omega arith)
      (λ apart. ⊎_elim (λ (less : block < front). absurd (absent (branch-below words width skipped bytes kids count key is (below_block key unit front (unit_pos width) less))))
      (λ more. omega arith) apart)
      (cases_order block front) in
      let few : front + 256 ≤ block → ⊥ = λ high.
      let whole : (front + 256) * unit ≤ block * unit = mul-le (front + 256) unit block unit high (omega arith) in
      let split = div-add-mod' key unit in
      absent (branch-above words width skipped bytes kids count key is (omega arith)) in
      let below : block < front + 256 = ⊎_elim
      (λ (same : block ≡ front + 256). absurd (few (omega arith)))
      (λ apart. ⊎_elim (λ less. less) (λ (more : front + 256 < block). absurd (few (omega arith))) apart)
      (cases_order block (front + 256)) in
      key_of unit front key (block % 256) (key % unit) block (unit_pos width) refl refl from (omega arith) (omega arith)

  -- One of its children has the byte that comes next.
  pub branch-has : has bytes (key / 256 ^ width % 256) ≡ true
  branch-has =
      let byte = key / 256 ^ width % 256 in
      elim (has bytes byte) as (λ b. has bytes byte ≡ b → b ≡ true) [
        | true ↦ λ _. refl
        | false ↦ λ none. absurd (absent (branch-missing words width skipped bytes kids count key is byte (rank bytes byte) (key % 256 ^ width) (branch-there, none, refl)))
      ] refl
