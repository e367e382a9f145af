-- A tight node has the form of the rule, kind by kind.
use Rattle.std.proofs.Common.{◌≡◌, ℕ, suc, ◌+◌, ◌*◌, ◌^◌, ◌<◌, ◌≤◌, true, false, cond, leb, List, [], ◌∷◌, ◌++◌, length, sym, refl, ap, ◌∙◌, subst, arith, length-append}
use Rattle.std.proofs.Math.Nat.{add-mul, mul-add}
use Rattle.std.proofs.lemmas.Nat.{mul-le, pow-add}
use Rattle.std.proofs.lemmas.Bool.{leb-false}
use Rattle.judy_model.specs.Keys.{IsByteString}
use Rattle.judy_model.specs.WordBytes.{number_of}
use Rattle.judy_model.specs.Forms.{Node, Form, branch, is_loose, loose_in}
use Rattle.judy_model.specs.Shapes.{Bucket, bytes_of, forms_of, form_of, AreBuckets, keys_of_buckets}
use Rattle.judy_model.proofs.lemmas.orders.ByteLemmas.{number_of-lt}
use Rattle.judy_model.proofs.lemmas.forms.FormLemmas.{loose_in-append}
use Rattle.judy_model.proofs.lemmas.forms.BucketLemmas.{form_of-buckets}
use Rattle.judy_leaf.specs.KeyLists.{keys_of, shift}
use Rattle.judy_node.specs.Trees.{Tree, IsTight, IsMap, join, forms_in, IsChild, AreChildren, branch_pairs, AreParts, IsBranch, branch_tree}
use Rattle.judy_node.proofs.Maps.{map-wider, keys_of-shift, keys_of-append, length-keys_of, map-AllBelow, join-map, length-shift}

-- Children as the groups of their keys.
abbrev pub groups_in : List ℕ → List Tree → List Bucket
groups_in [] kids = []
groups_in (byte ∷ bytes) [] = []
groups_in (byte ∷ bytes) (kid ∷ kids) = (byte, keys_of kid.pairs) ∷ groups_in bytes kids

pub keys_of-join : (unit block : ℕ) (bytes : List ℕ) (kids : List Tree) → keys_of (join unit block bytes kids) ≡ keys_of_buckets unit block (groups_in bytes kids)
keys_of-join unit block [] kids = refl
keys_of-join unit block (byte ∷ bytes) [] = refl
keys_of-join unit block (byte ∷ bytes) (kid ∷ kids) =
    keys_of-append (shift ((block + byte) * unit) kid.pairs) (join unit block bytes kids)
    ∙ (λ t. keys_of-shift ((block + byte) * unit) kid.pairs t ++ keys_of-join unit block bytes kids t)

children-groups : (words width low : ℕ) (bytes : List ℕ) (kids : List Tree) → AreChildren words width low bytes kids → AreBuckets (256 ^ width) low (groups_in bytes kids)
children-groups words width low [] [] are = tt
children-groups words width low [] (kid ∷ kids) are = absurd are
children-groups words width low (byte ∷ bytes) [] are = absurd are
children-groups words width low (byte ∷ bytes) (kid ∷ kids) are =
    let some = are.2.some in
    let long = length-keys_of kid.pairs in
    (are.0, are.1, omega arith, map-AllBelow words 0 (256 ^ width) kid.pairs are.2.map, children-groups words width (byte + 1) bytes kids are.3)

children-bytes : (words width low : ℕ) (bytes : List ℕ) (kids : List Tree) → AreChildren words width low bytes kids → bytes_of (groups_in bytes kids) ≡ bytes
children-bytes words width low [] [] are = refl
children-bytes words width low [] (kid ∷ kids) are = absurd are
children-bytes words width low (byte ∷ bytes) [] are = absurd are
children-bytes words width low (byte ∷ bytes) (kid ∷ kids) are = ap (λ rest. byte ∷ rest) (children-bytes words width (byte + 1) bytes kids are.3)

length-groups_in : (words width low : ℕ) (bytes : List ℕ) (kids : List Tree) → AreChildren words width low bytes kids → length (groups_in bytes kids) ≡ length bytes
length-groups_in words width low [] [] are = refl
length-groups_in words width low [] (kid ∷ kids) are = absurd are
length-groups_in words width low (byte ∷ bytes) [] are = absurd are
length-groups_in words width low (byte ∷ bytes) (kid ∷ kids) are = ap suc (length-groups_in words width (byte + 1) bytes kids are.3)

-- Tight children have the forms of the rule.
children-forms : (words width low : ℕ) (bytes : List ℕ) (kids : List Tree) → AreChildren words width low bytes kids → loose_in (forms_in kids) ≡ 0
    → forms_in kids ≡ forms_of (form_of words width) (groups_in bytes kids)
children-forms words width low [] [] are tight = refl
children-forms words width low [] (kid ∷ kids) are tight = absurd are
children-forms words width low (byte ∷ bytes) [] are tight = absurd are
children-forms words width low (byte ∷ bytes) (kid ∷ kids) are tight =
    let sum = loose_in-append kid.form (forms_in kids) in
    let here : kid.form ≡ form_of words width (keys_of kid.pairs) = are.2.shaped (omega arith) in
    let rest = children-forms words width (byte + 1) bytes kids are.3 (omega arith) in
    λ t. here t ++ rest t

-- A branch that isn't loose.
pub branch_needed : (skipped bytes : List ℕ) (count : ℕ) → is_loose (branch skipped bytes count) ≡ false → (32 < count) × (1 < length bytes)
branch_needed skipped bytes count tight =
    elim (leb count 32) as (λ b. leb count 32 ≡ b → cond b true (leb (length bytes) 1) ≡ false → (32 < count) × (1 < length bytes)) [
      | true ↦ λ _ never. cc
      | false ↦ λ many two. (leb-false count 32 many, leb-false (length bytes) 1 two)
    ] refl tight

-- The first of nodes that are all tight.
pub tight-parts : (node : Node) (nodes : Form) → loose_in (node ∷ nodes) ≡ 0 → (is_loose node ≡ false) × (loose_in nodes ≡ 0)
tight-parts node nodes tight =
    elim (is_loose node) as (λ b. cond b 1 0 + loose_in nodes ≡ 0 → (b ≡ false) × (loose_in nodes ≡ 0)) [
      | true ↦ λ (sum : 1 + loose_in nodes ≡ 0). let never : ⊥ = omega arith in absurd never
      | false ↦ λ (sum : 0 + loose_in nodes ≡ 0). (refl, omega arith)
    ] tight

branch-shaped : (words width : ℕ) (skipped bytes : List ℕ) (kids : List Tree) (count : ℕ) → AreParts words width skipped bytes kids count
    → IsTight (branch_tree width skipped bytes kids count)
    → branch skipped bytes count ∷ forms_in kids ≡ form_of words (length skipped + 1 + width) (keys_of (branch_pairs width skipped bytes kids))
branch-shaped words width skipped bytes kids count is tight =
    let parts = tight-parts (branch skipped bytes count) (forms_in kids) tight in
    let needed = branch_needed skipped bytes count parts.0 in
    let many = needed.0 in
    let two = needed.1 in
    let groups = groups_in bytes kids in
    let keys = keys_of (branch_pairs width skipped bytes kids) in
    let long = length-keys_of (branch_pairs width skipped bytes kids) in
    let counted = is.counted in
    let as_many = length-groups_in words width 0 bytes kids is.children in
    let all : count ≡ length keys = counted ∙ sym long in
    let rule = form_of-buckets words width (length skipped + 1 + width) skipped groups keys refl is.some_width is.skipped_bytes
    (children-groups words width 0 bytes kids is.children) (omega arith) (keys_of-join (256 ^ width) (number_of skipped * 256) bytes kids) (omega arith) in
    (λ t. branch skipped (sym (children-bytes words width 0 bytes kids is.children) t) (all t) ∷ children-forms words width 0 bytes kids is.children parts.1 t)
    ∙ sym rule

-- A block of a branch's keys lies below 256 to their width.
block_within : (skipped : List ℕ) (width : ℕ) → IsByteString skipped → (number_of skipped * 256 + 256) * 256 ^ width ≤ 256 ^ (length skipped + 1 + width)
block_within skipped width are =
    let below = number_of-lt skipped are in
    let spread : 256 ^ (length skipped + 1 + width) ≡ 256 ^ length skipped * 256 * 256 ^ width =
    pow-add 256 (length skipped + 1) width ∙ ap (λ n. n * 256 ^ width) (pow-add 256 (length skipped) 1) in
    subst (λ top. (number_of skipped * 256 + 256) * 256 ^ width ≤ top) (sym spread)
    (mul-le (number_of skipped * 256 + 256) (256 ^ width) (256 ^ length skipped * 256) (256 ^ width) (omega arith) (omega arith))

pub branch-map : (words width : ℕ) (skipped bytes : List ℕ) (kids : List Tree) (count : ℕ) → AreParts words width skipped bytes kids count
    → IsMap words 0 (256 ^ (length skipped + 1 + width)) (branch_pairs width skipped bytes kids)
branch-map words width skipped bytes kids count is =
    map-wider words ((number_of skipped * 256 + 0) * 256 ^ width) ((number_of skipped * 256 + 256) * 256 ^ width) 0 (256 ^ (length skipped + 1 + width))
    (branch_pairs width skipped bytes kids) (omega arith) (block_within skipped width is.skipped_bytes)
    (join-map words width 0 (number_of skipped * 256) bytes kids (omega arith) is.children)

some-join : (words width low unit block : ℕ) (bytes : List ℕ) (kids : List Tree) → AreChildren words width low bytes kids → 1 ≤ length bytes → 0 < length (join unit block bytes kids)
some-join words width low unit block [] kids are one = let never : ⊥ = omega arith in absurd never
some-join words width low unit block (byte ∷ bytes) [] are one = absurd are
some-join words width low unit block (byte ∷ bytes) (kid ∷ kids) are one =
    let some = are.2.some in
    let here = length-shift ((block + byte) * unit) kid.pairs in
    let both = length-append (shift ((block + byte) * unit) kid.pairs) (join unit block bytes kids) in
    omega arith

children-nodes : (words width low unit block : ℕ) (bytes : List ℕ) (kids : List Tree) → AreChildren words width low bytes kids → length (forms_in kids) ≤ width * length (join unit block bytes kids)
children-nodes words width low unit block [] [] are = omega arith
children-nodes words width low unit block [] (kid ∷ kids) are = absurd are
children-nodes words width low unit block (byte ∷ bytes) [] are = absurd are
children-nodes words width low unit block (byte ∷ bytes) (kid ∷ kids) are =
    let start = (block + byte) * unit in
    let nodes = length-append kid.form (forms_in kids) in
    let pairs : length (shift start kid.pairs ++ join unit block bytes kids) ≡ length kid.pairs + length (join unit block bytes kids) =
    length-append (shift start kid.pairs) (join unit block bytes kids) ∙ ap (λ n. n + length (join unit block bytes kids)) (length-shift start kid.pairs) in
    let product : width * length (shift start kid.pairs ++ join unit block bytes kids) ≡ width * length kid.pairs + width * length (join unit block bytes kids) =
    ap (λ n. width * n) pairs ∙ mul-add width (length kid.pairs) (length (join unit block bytes kids)) in
    let here = are.2.nodes in
    let rest = children-nodes words width (byte + 1) unit block bytes kids are.3 in
    omega arith

branch-nodes : (words width : ℕ) (skipped bytes : List ℕ) (kids : List Tree) (count : ℕ) → IsBranch words width skipped bytes kids count
    → suc (length (forms_in kids)) ≤ (length skipped + 1 + width) * length (branch_pairs width skipped bytes kids)
branch-nodes words width skipped bytes kids count is =
    let some = some-join words width 0 (256 ^ width) (number_of skipped * 256) bytes kids is.parts.children is.holds in
    let below = children-nodes words width 0 (256 ^ width) (number_of skipped * 256) bytes kids is.parts.children in
    let n = length (branch_pairs width skipped bytes kids) in
    let spread = add-mul (length skipped + 1) width n in
    let one : 1 * 1 ≤ (length skipped + 1) * n = mul-le 1 1 (length skipped + 1) n (omega arith) (omega arith) in
    omega arith

pub branch-child : (words width : ℕ) (skipped bytes : List ℕ) (kids : List Tree) (count : ℕ) → IsBranch words width skipped bytes kids count
    → IsChild words (length skipped + 1 + width) (branch_tree width skipped bytes kids count)
branch-child words width skipped bytes kids count is = record {
  low_width = omega arith;
  high_width = is.parts.within;
  wide = λ _. refl;
  some = some-join words width 0 (256 ^ width) (number_of skipped * 256) bytes kids is.parts.children is.holds;
  map = branch-map words width skipped bytes kids count is.parts;
  nodes = branch-nodes words width skipped bytes kids count is;
  shaped = branch-shaped words width skipped bytes kids count is.parts;
}
