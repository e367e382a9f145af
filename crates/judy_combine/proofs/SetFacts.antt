-- What is kept of two sets of bytes.
use Rattle.std.proofs.Common.{◌≡◌, ℕ, ◌+◌, ◌^◌, ◌<◌, ◌≤◌, ◌||◌, Bool, true, false, cond, ⊎_elim, List, [], ◌∷◌, Option, Some, None, MatchOption, sym, refl, ap, ◌∙◌, subst}
use Rattle.std.proofs.lemmas.Bool.{cases_lt, eq-eqb, ne_eqb}
use Rattle.judy_model.specs.Ranges.{zeroed}
use Rattle.judy_bits.specs.ByteSets.{IsByteSet, has}
use Rattle.judy_leaf.specs.KeyLists.{keys_of}
use Rattle.judy_leaf.proofs.BitSets.{keys_of-zeroed}
use Rattle.judy_node.specs.Trees.{Tree, IsMap, IsChild}
use Rattle.judy_node.specs.Built.{IsBuilt}
use Rattle.judy_node.proofs.BitFacts.{low_zeroed}
use Rattle.judy_query.specs.Parts.{value_of}
use Rattle.judy_combine.specs.declared.keep.Keep.{Keep}
use Rattle.judy_combine.specs.Merges.{Pairs, pick}
use Rattle.judy_combine.specs.Kept.{AreKept, IsKept}
use Rattle.judy_combine.specs.KeptBits.{is_kept}
use Rattle.judy_combine.proofs.Finds.{same_or, find-same, find-apart}
use Rattle.judy_combine.proofs.KeptFacts.{value-past}

-- What a set has at a word.
abbrev in_set : Bool → Option ℕ
in_set there = cond there (Some 0) None

set_value : (low top : ℕ) (pairs : Pairs) (key : ℕ) → IsMap 0 low top pairs → value_of pairs key ≡ in_set (has (keys_of pairs) key)
set_value low top [] key map = refl
set_value low top (pair ∷ pairs) key map = ⊎_elim
    (λ same. find-same key pair pairs same ∙ ap Some (map.2 refl) ∙ ap (λ b. in_set (b || has (keys_of pairs) key)) (sym (eq-eqb pair.0 key (sym same))))
    (λ apart. find-apart key pair pairs apart ∙ set_value (pair.0 + 1) top pairs key map.3
    ∙ ap (λ b. in_set (b || has (keys_of pairs) key)) (sym (ne_eqb pair.0 key (λ same. apart (sym same)))))
    (same_or key pair.0)

pick_sets : (keep : Keep) (ours theirs : Bool) → pick keep (in_set ours) (in_set theirs) ≡ in_set (is_kept keep ours theirs)
pick_sets keep true true = refl
pick_sets keep true false = refl
pick_sets keep false true = refl
pick_sets keep false false = refl

module _ (keep : Keep) (one other out : Pairs) (bytes : List ℕ) (map : IsMap 0 0 (256 ^ 1) one) (other_map : IsMap 0 0 (256 ^ 1) other) (out_map : IsMap 0 0 (256 ^ 1) out)
    (same : keys_of out ≡ bytes) (bits : (byte : ℕ) → byte < 256 → has bytes byte ≡ is_kept keep (has (keys_of one) byte) (has (keys_of other) byte)) where
  kept_set : AreKept keep one other out
  kept_set key = ⊎_elim
      (λ (small : key < 256).
      set_value 0 (256 ^ 1) out key out_map ∙ ap (λ keys. in_set (has keys key)) same ∙ ap in_set (bits key small)
      ∙ sym (pick_sets keep (has (keys_of one) key) (has (keys_of other) key))
      ∙ (λ t. pick keep (sym (set_value 0 (256 ^ 1) one key map) t) (sym (set_value 0 (256 ^ 1) other key other_map) t)))
      (λ (past : 256 ≤ key).
      value-past 0 0 (256 ^ 1) out key past out_map
      ∙ (λ t. pick keep (sym (value-past 0 0 (256 ^ 1) one key past map) t) (sym (value-past 0 0 (256 ^ 1) other key past other_map) t)))
      (cases_lt key 256)

-- The node of the bytes that are kept of two, or none.
kept_node : (keep : Keep) (one other : Tree) (bytes : List ℕ) (made : Option Tree) → IsChild 0 1 one → IsChild 0 1 other → IsByteSet bytes
    → ((byte : ℕ) → byte < 256 → has bytes byte ≡ is_kept keep (has (keys_of one.pairs) byte) (has (keys_of other.pairs) byte))
    → MatchOption made (bytes ≡ []) (λ child. IsBuilt 0 1 (zeroed bytes) child) → IsKept 0 1 keep one.pairs other.pairs made
kept_node keep one other bytes None child other_child is bits none =
    kept_set keep one.pairs other.pairs [] bytes child.map other_child.map tt (sym none) bits
kept_node keep one other bytes (Some node) child other_child is bits built = record {
  child = built.child;
  tight = built.tight;
  kept = kept_set keep one.pairs other.pairs node.pairs bytes child.map other_child.map built.child.map (ap keys_of (built.same ∙ low_zeroed bytes is) ∙ keys_of-zeroed bytes) bits;
}

-- The same where the number of value words is told to be none.
pub kept_bits_node : (words : ℕ) (keep : Keep) (one other : Tree) (ours theirs bytes : List ℕ) (made : Option Tree) → words ≡ 0 → IsChild words 1 one → IsChild words 1 other
    → IsByteSet bytes → ours ≡ keys_of one.pairs → theirs ≡ keys_of other.pairs → ((byte : ℕ) → byte < 256 → has bytes byte ≡ is_kept keep (has ours byte) (has theirs byte))
    → MatchOption made (bytes ≡ []) (λ child. IsBuilt words 1 (zeroed bytes) child) → IsKept words 1 keep one.pairs other.pairs made
kept_bits_node words keep one other ours theirs bytes made none child other_child is ours_are theirs_are bits built =
    subst (λ w. IsKept w 1 keep one.pairs other.pairs made) (sym none)
    (kept_node keep one other bytes made (subst (λ w. IsChild w 1 one) none child) (subst (λ w. IsChild w 1 other) none other_child) is
    (λ byte small. bits byte small ∙ (λ t. is_kept keep (has (ours_are t) byte) (has (theirs_are t) byte)))
    (subst (λ w. MatchOption made (bytes ≡ []) (λ node. IsBuilt w 1 (zeroed bytes) node)) none built))
