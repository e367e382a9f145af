-- Nodes made of sorted pairs.
use Rattle.std.proofs.Common.{◌≡◌, ◌≢◌, ℕ, zero, suc, ◌+◌, ◌-◌, ◌*◌, ◌/◌, ◌%◌, ◌^◌, ◌<◌, ◌≤◌, [], ◌∷◌, length, get_or, sym, refl, ap, ◌∙◌, subst, arith}
use Rattle.judy_model.specs.Shapes.{AllBelow, immediate_limit}
use Rattle.judy_model.proofs.lemmas.forms.FormLemmas.{immediate_limit_small}
use Rattle.judy_block.specs.Contents.{Contents}
use Rattle.judy_leaf.specs.KeyLists.{keys_of, low_pairs, shift}
use Rattle.judy_leaf.specs.Leaves.{leaf_list, IsLeafParts}
use Rattle.judy_leaf.specs.BitLeaves.{bit_list, IsBitParts}
use Rattle.judy_leaf.specs.Immediates.{parts_list, IsImmParts}
use Rattle.judy_node.specs.Trees.{Pairs, IsMap}
use Rattle.judy_node.specs.Kinds.{imm_pairs, imm_tree, IsImm, leaf_tree, IsLeaf, bit_width, bit_tree, IsBit}
use Rattle.judy_node.specs.Built.{IsBuilt}
use Rattle.judy_node.proofs.Maps.{map-AllBelow, length-keys_of, shift-zero}
use Rattle.judy_model.specs.WordBytes.{low_bytes}
use Rattle.judy_model.specs.Forms.{bitmap_leaf}
use Rattle.judy_model.proofs.lemmas.forms.FormLemmas.{tight-head}
use Rattle.std.proofs.lemmas.Bool.{lt-leb}
use Rattle.judy_node.proofs.Leaves.{leaf_long, imm_some}
use Rattle.judy_node.proofs.KindFacts.{imm-child, leaf-child, bit-child}
use Rattle.judy_node.proofs.Groups.{length-low_pairs}

-- ---- leaves

module _ (words width count : ℕ) (block : Contents) (pairs : Pairs) (parts : IsLeafParts words count block)
    (same : leaf_list words count block ≡ record { width = width; pairs = low_pairs (256 ^ width) pairs })
    (more : immediate_limit words width < length pairs) where
  pub leaf_made : IsLeaf words count block
  leaf_made =
      let long = leaf_long words count block parts in
      let as_many = ap (λ l. length l.pairs) same ∙ length-low_pairs (256 ^ width) pairs in
      record { parts = parts; more = subst (λ w. immediate_limit words w < count) (ap (λ l. l.width) (sym same)) (omega arith) }

  pub leaf_built : 1 ≤ width → width ≤ 8 → IsMap words 0 (256 ^ width) (low_pairs (256 ^ width) pairs) → IsBuilt words width pairs (leaf_tree words count block)
  leaf_built low high map =
      let here = ap (λ l. l.pairs) same in
      record {
        child = leaf-child words width count block leaf_made
            (record {
              low_width = low;
              high_width = high;
              wide = λ _. ap (λ l. l.width) same;
              below = subst (λ ps. AllBelow (256 ^ width) (keys_of ps)) (sym here) (map-AllBelow words 0 (256 ^ width) (low_pairs (256 ^ width) pairs) map);
            });
        same = here;
        tight = refl;
      }

-- ---- bitmap leaves

module _ (words : ℕ) (block : Contents) (pairs : Pairs) (parts : IsBitParts words block) (same : bit_list words block ≡ record { width = 1; pairs = low_pairs 256 pairs }) where
  wide : bit_width block ≡ 1
  wide = ap (λ l. l.width) same

  as_many : length (bit_list words block).pairs ≡ length pairs
  as_many = ap (λ l. length l.pairs) same ∙ length-low_pairs 256 pairs

  pub bits_made : 0 < length pairs → IsBit words 0 block
  bits_made some =
      let all = as_many in
      record { parts = parts; some = omega arith; skips = subst (λ w. 0 < 256 ^ (w - 1)) (sym wide) (omega arith) }

  pub bits_built : 32 < length pairs → IsMap words 0 (256 ^ 1) (low_pairs (256 ^ 1) pairs) → IsBuilt words 1 pairs (bit_tree words 0 block)
  bits_built many map =
      let here : shift (0 * 256) (bit_list words block).pairs ≡ low_pairs 256 pairs = shift-zero (0 * 256) (bit_list words block).pairs (omega arith) ∙ ap (λ l. l.pairs) same in
      let all = as_many in
      let keys = length-keys_of (bit_list words block).pairs in
      record {
        child = bit-child words 1 0 block (bits_made (omega arith))
            (record {
              low_width = omega arith;
              high_width = omega arith;
              wide = λ _. wide;
              below = subst (λ ps. AllBelow 256 (keys_of ps)) (sym here) (map-AllBelow words 0 256 (low_pairs 256 pairs) map);
            });
        same = here;
        tight = tight-head (bitmap_leaf (low_bytes (bit_width block - 1) 0) (keys_of (bit_list words block).pairs)) [] (lt-leb (length (keys_of (bit_list words block).pairs)) 32 (omega arith)) refl;
      }

-- ---- immediates

head_parts : (count width head : ℕ) → count ≤ 8 → head ≡ count + 256 * width → (head / 256 ≡ width) × (head % 256 ≡ count)
head_parts count width head few is = (omega arith, omega arith)

-- An immediate without values, from the two words that judy_leaf gives for it.
module _ (width count word head : ℕ) (pairs : Pairs) (parts : IsImmParts 0 width count word) (same : parts_list 0 width count word ≡
    record { width = width; pairs = low_pairs (256 ^ width) pairs }) (is : head ≡ count + 256 * width) where
  split : (head / 256 ≡ width) × (head % 256 ≡ count)
  split =
      let most = imm_some width count word parts in
      let limit = immediate_limit_small 0 width in
      let few = most.1 in
      head_parts count width head (omega arith) is

  pub few_made : IsImm 0 head word
  few_made = subst (λ w. IsImmParts 0 w (head % 256) word) (sym split.0) (subst (λ n. IsImmParts 0 width n word) (sym split.1) parts)

  few_pairs : imm_pairs 0 head word ≡ low_pairs (256 ^ width) pairs
  few_pairs = (λ t. (parts_list 0 (split.0 t) (split.1 t) word).pairs) ∙ ap (λ l. l.pairs) same

  pub few_built : 1 ≤ width → width ≤ 8 → IsMap 0 0 (256 ^ width) (low_pairs (256 ^ width) pairs) → IsBuilt 0 width pairs (imm_tree 0 head word)
  few_built low high map = record {
    child = imm-child 0 width head word few_made
        (record {
          low_width = low;
          high_width = high;
          wide = λ _. split.0;
          below = subst (λ ps. AllBelow (256 ^ width) (keys_of ps)) (sym few_pairs) (map-AllBelow 0 0 (256 ^ width) (low_pairs (256 ^ width) pairs) map);
        });
    same = few_pairs;
    tight = refl;
  }

pub few_done : (words width count word head : ℕ) (pairs : Pairs) → words ≡ 0 → IsImmParts words width count word →
    parts_list words width count word ≡ record { width = width; pairs = low_pairs (256 ^ width) pairs }
    → head ≡ count + 256 * width → 1 ≤ width → width ≤ 8 → IsMap words 0 (256 ^ width) (low_pairs (256 ^ width) pairs) → IsImm words head word × IsBuilt words width pairs (imm_tree words head word)
few_done zero width count word head pairs none parts same is low high map =
    (few_made width count word head pairs parts same is, few_built width count word head pairs parts same is low high map)
few_done (suc words) width count word head pairs none parts same is low high map = let never : ⊥ = omega arith in absurd never

-- One with a value: the first pair is all there is.
one_pair : (unit : ℕ) (pairs : Pairs) (head word : ℕ) → 0 < length pairs → length pairs ≤ 1 → head ≡ (get_or pairs 0 (0, 0)).0 % unit → word ≡ (get_or pairs 0 (0, 0)).1 →
    low_pairs unit pairs ≡ (head, word) ∷ []
one_pair unit [] head word some few is same = let never : ⊥ = omega arith in absurd never
one_pair unit (pair ∷ []) head word some few is same = λ t. (sym is t, sym same t) ∷ []
one_pair unit (pair ∷ other ∷ pairs) head word some few is same = let never : ⊥ = omega arith in absurd never

pub one_done : (words width head word : ℕ) (pairs : Pairs) → words ≤ 1 → (words ≡ 0 → ⊥) → 0 < length pairs → length pairs ≤ immediate_limit words width →
    head ≡ (get_or pairs 0 (0, 0)).0 % 256 ^ width → word ≡ (get_or pairs 0 (0, 0)).1
    → 1 ≤ width → width ≤ 8 → IsMap words 0 (256 ^ width) (low_pairs (256 ^ width) pairs) → IsBuilt words width pairs (imm_tree words head word)
one_done zero width head word pairs one apart some few is same low high map = absurd (apart refl)
one_done (suc words) width head word pairs one apart some few is same low high map =
    let all = one_pair (256 ^ width) pairs head word some few is same in
    record {
      child = imm-child (suc words) width head word one
          (record {
            low_width = low;
            high_width = high;
            wide = λ (told : 0 ≢ 0). absurd (told refl);
            below = subst (λ ps. AllBelow (256 ^ width) (keys_of ps)) all (map-AllBelow (suc words) 0 (256 ^ width) (low_pairs (256 ^ width) pairs) map);
          });
      same = sym all;
      tight = refl;
    }
