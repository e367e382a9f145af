-- Each kind of node keeps what a child keeps.
use Rattle.std.proofs.Common.{◌≡◌, ◌≢◌, ℕ, zero, suc, ◌+◌, ◌-◌, ◌*◌, ◌/◌, ◌%◌, ◌^◌, ◌<◌, ◌≤◌, List, [], ◌∷◌, length, sym, refl, ap, ◌∙◌, subst, arith}
use Rattle.std.proofs.lemmas.Bool.{leb-false}
use Rattle.std.proofs.lemmas.Nat.{mul-le, pow-add, mod_below}
use Rattle.std.proofs.Math.Nat.{mod-eq_of_lt}
use Rattle.std.proofs.lemmas.List.Elements.{All-nil, All-cons}
use Rattle.judy_model.specs.Keys.{IsByteString}
use Rattle.judy_model.specs.WordBytes.{number_of, low_bytes}
use Rattle.judy_model.specs.Forms.{Form, immediate, leaf, bitmap_leaf, raise}
use Rattle.judy_model.specs.Shapes.{form_of, by_number, immediate_limit, AllBelow}
use Rattle.judy_model.proofs.lemmas.orders.ByteLemmas.{number_of-low_bytes, length-low_bytes}
use Rattle.judy_model.proofs.lemmas.forms.FormLemmas.{by_number-cases, immediate_limit_small}
use Rattle.judy_model.proofs.lemmas.forms.BucketLemmas.{form_of-last_byte}
use Rattle.judy_block.specs.Contents.{Contents}
use Rattle.judy_leaf.specs.KeyLists.{keys_of, shift}
use Rattle.judy_leaf.specs.Leaves.{leaf_list}
use Rattle.judy_leaf.specs.BitLeaves.{bit_list}
use Rattle.judy_node.specs.Trees.{Tree, IsMap, IsChild}
use Rattle.judy_node.specs.Kinds.{imm_pairs, imm_tree, IsImm, leaf_tree, IsLeaf, bit_width, bit_tree, IsBit, tree_of, IsLevel}
use Rattle.judy_node.specs.declared.child.KindOf.{KindOf}
use Rattle.judy_node.specs.declared.child.KindOf.TheVariants.{Imm, Leaf, Bit, Branch}
use Rattle.judy_node.proofs.Maps.{map-wider, map-shift, keys_of-shift, length-keys_of, map-AllBelow, length-shift}
use Rattle.judy_node.proofs.Shaped.{branch-child, tight-parts}
use Rattle.judy_node.proofs.Leaves.{leaf_map, leaf_width, leaf_long, bit_map, imm_map, imm_length, imm_width_fits, imm_some}

-- ---- the rule for a few keys

-- The rule's form for keys of a width of at least a byte goes by their number.
rule_by_number : (words width : ℕ) (keys : List ℕ) → 1 ≤ width → (many : Form) × (form_of words width keys ≡ by_number words width keys many)
rule_by_number words zero keys some = let never : ⊥ = omega arith in absurd never
rule_by_number words (suc zero) keys some = (bitmap_leaf [] keys ∷ [], refl)
rule_by_number words (suc (suc below)) keys some = (_, refl)

pub few_keys_form : (words width : ℕ) (keys : List ℕ) → 1 ≤ width → 1 ≤ length keys → length keys ≤ immediate_limit words width → form_of words width keys ≡ immediate keys ∷ []
few_keys_form words width keys some one few =
    let rule = rule_by_number words width keys some in
    let small = immediate_limit_small words width in
    rule.1
    ∙ by_number-cases (λ form. form ≡ immediate keys ∷ []) words width keys rule.0
    (λ none. let never : ⊥ = omega arith in absurd never)
    (λ _ _. refl)
    (λ more _. let never : ⊥ = omega arith in absurd never)
    (λ more. let never : ⊥ = omega arith in absurd never)

pub some_keys_form : (words width : ℕ) (keys : List ℕ) → 1 ≤ width → immediate_limit words width < length keys → length keys ≤ 32 → form_of words width keys ≡ leaf keys ∷ []
some_keys_form words width keys some more few =
    let rule = rule_by_number words width keys some in
    rule.1
    ∙ by_number-cases (λ form. form ≡ leaf keys ∷ []) words width keys rule.0
    (λ none. let never : ⊥ = omega arith in absurd never)
    (λ _ within. let never : ⊥ = omega arith in absurd never)
    (λ _ _. refl)
    (λ many. let never : ⊥ = omega arith in absurd never)

-- ---- kinds

-- One node has no more than the bytes of its keys.
one_node : (width count : ℕ) → 1 ≤ width → 1 ≤ count → 1 ≤ width * count
one_node width count low some = mul-le 1 1 width count low some

-- The end of a block of 256 below so many blocks.
block_end : (block blocks : ℕ) → block < blocks → block * 256 + 256 ≤ blocks * 256 ^ 1
block_end block blocks below = omega arith

-- What an immediate with a value doesn't tell: that its key fits the width.
pub record FitsAt (width : ℕ) (tree : Tree) : Type 0 where
  pub low_width : 1 ≤ width
  pub high_width : width ≤ 8
  pub wide : tree.width ≢ 0 → tree.width ≡ width
  pub below : AllBelow (256 ^ width) (keys_of tree.pairs)

pub imm-child : (words width head word : ℕ) → IsImm words head word → FitsAt width (imm_tree words head word) → IsChild words width (imm_tree words head word)
imm-child zero width head word level at =
    let fits = imm_width_fits (head / 256) (head % 256) word level in
    let low = fits.0 in
    let is_width : head / 256 ≡ width = at.wide (λ (none : head / 256 ≡ 0). let never : ⊥ = omega arith in never) in
    let pairs = imm_pairs 0 head word in
    let long = imm_length (head / 256) (head % 256) word level in
    let keys = length-keys_of pairs in
    let some = imm_some (head / 256) (head % 256) word level in
    let one = some.0 in
    let few = some.1 in
    record {
      low_width = at.low_width;
      high_width = at.high_width;
      wide = at.wide;
      some = omega arith;
      map = subst (λ w. IsMap 0 0 (256 ^ w) pairs) is_width (imm_map (head / 256) (head % 256) word level);
      nodes = one_node width (length pairs) at.low_width (omega arith);
      shaped = λ tight. sym (few_keys_form 0 width (keys_of pairs) at.low_width (omega arith)
          (subst (λ w. length (keys_of pairs) ≤ immediate_limit 0 w) is_width (omega arith)));
    }
imm-child (suc words) width head word level at =
    let here = at.below.0 in
    record {
      low_width = at.low_width;
      high_width = at.high_width;
      wide = at.wide;
      some = omega arith;
      map = (omega arith, here, (λ (none : suc words ≡ 0). let never : ⊥ = omega arith in absurd never), tt);
      nodes = one_node width 1 at.low_width (omega arith);
      shaped = λ tight. sym (few_keys_form (suc words) width (head ∷ []) at.low_width (omega arith) (omega arith));
    }

pub leaf-child : (words width count : ℕ) (block : Contents) → IsLeaf words count block → FitsAt width (leaf_tree words count block) → IsChild words width (leaf_tree words count block)
leaf-child words width count block level at =
    let fits = leaf_width words count block level.parts in
    let low = fits.0 in
    let is_width : block.tag ≡ width = at.wide (λ (none : block.tag ≡ 0). let never : ⊥ = omega arith in never) in
    let pairs = (leaf_list words count block).pairs in
    let long = leaf_long words count block level.parts in
    let keys = length-keys_of pairs in
    let more = level.more in
    let few = level.parts.keys.few in
    record {
      low_width = at.low_width;
      high_width = at.high_width;
      wide = at.wide;
      some = omega arith;
      map = subst (λ w. IsMap words 0 (256 ^ w) pairs) is_width (leaf_map words count block level.parts);
      nodes = one_node width (length pairs) at.low_width (omega arith);
      shaped = λ tight. sym (some_keys_form words width (keys_of pairs) at.low_width
          (subst (λ w. immediate_limit words w < length (keys_of pairs)) is_width (omega arith)) (omega arith));
    }

pub low_bytes-are : (width word : ℕ) → IsByteString (low_bytes width word)
low_bytes-are zero word = All-nil (λ byte. byte < 256)
low_bytes-are (suc width) word =
    All-cons (λ byte. byte < 256) (word / 256 ^ width % 256) (low_bytes width word) (mod_below (word / 256 ^ width) 256 (omega arith)) (low_bytes-are width word)

pub bit-child : (words width skipped : ℕ) (block : Contents) → IsBit words skipped block → FitsAt width (bit_tree words skipped block) → IsChild words width (bit_tree words skipped block)
bit-child words width skipped block level at =
    let low = level.parts.some in
    let is_width : bit_width block ≡ width = at.wide (λ (none : bit_width block ≡ 0). let never : ⊥ = omega arith in never) in
    let front = bit_width block - 1 in
    let front_is : front + 1 ≡ width = omega arith in
    let inner = (bit_list words block).pairs in
    let shared = low_bytes front skipped in
    let moved = length-shift (skipped * 256) inner in
    let some = level.some in
    let keys = length-keys_of inner in
    let top : skipped * 256 + 256 ≤ 256 ^ width =
    subst (λ n. skipped * 256 + 256 ≤ 256 ^ n) front_is (subst (λ n. skipped * 256 + 256 ≤ n) (sym (pow-add 256 front 1)) (block_end skipped (256 ^ front) level.skips)) in
    let length_is : length shared + 1 ≡ width = ap (λ n. n + 1) (length-low_bytes front skipped) ∙ front_is in
    let number_is : number_of shared ≡ skipped = number_of-low_bytes front skipped ∙ mod-eq_of_lt level.skips in
    let keys_are : keys_of (shift (skipped * 256) inner) ≡ raise (number_of shared * 256) (keys_of inner) =
    keys_of-shift (skipped * 256) inner ∙ ap (λ n. raise (n * 256) (keys_of inner)) (sym number_is) in
    record {
      low_width = at.low_width;
      high_width = at.high_width;
      wide = at.wide;
      some = omega arith;
      map = map-wider words (skipped * 256 + 0) (skipped * 256 + 256) 0 (256 ^ width) (shift (skipped * 256) inner) (omega arith) top
          (map-shift words 0 256 (skipped * 256) inner (bit_map words block));
      nodes = one_node width (length (shift (skipped * 256) inner)) at.low_width (omega arith);
      shaped = λ tight. sym (
          ap (form_of words width) keys_are
          ∙ ap (λ w. form_of words w (raise (number_of shared * 256) (keys_of inner))) (sym length_is)
          ∙ form_of-last_byte words shared (keys_of inner) (low_bytes-are front skipped)
          (leb-false (length (keys_of inner)) 32 (tight-parts (bitmap_leaf shared (keys_of inner)) [] tight).0)
          (map-AllBelow words 0 256 inner (bit_map words block)));
    }

-- Each kind, at a width that it fits.
pub level-child : {V : _} (words width : ℕ) (kind : KindOf V) → IsLevel words kind → FitsAt width (tree_of words kind) → IsChild words width (tree_of words kind)
level-child words width (Imm head word) level at = imm-child words width head word level at
level-child words width (Leaf count block) level at = leaf-child words width count block level at
level-child words width (Bit skipped block) level at = bit-child words width skipped block level at
level-child words width (Branch b) level at =
    let low = level.0.parts.some_width in
    let is_width : length b.value.skip + 1 + b.value.width ≡ width = at.wide (λ (none : length b.value.skip + 1 + b.value.width ≡ 0). let never : ⊥ = omega arith in never) in
    subst (λ w. IsChild words w (tree_of words (Branch b))) is_width (branch-child words b.value.width b.value.skip b.value.bytes b.value.children.items b.value.population level.0)
