-- Nodes with one key more.
use Rattle.std.proofs.Common.{◌≡◌, ◌≢◌, ℕ, zero, suc, ◌+◌, ◌-◌, ◌*◌, ◌/◌, ◌%◌, ◌^◌, ◌<◌, ◌≤◌, Bool, true, false, true≢false, cond, List, [], ◌∷◌, ◌++◌, length, take, drop, get_or}
use Rattle.std.proofs.Common.{Option, Some, None, is_some, sym, refl, ap, ◌∙◌, subst, arith}
use Rattle.std.proofs.Math.Nat.{pow-le-pow_right}
use Rattle.std.proofs.lemmas.List.{take-append-le, take_all, take_at, drop_more, append_assoc, length_push}
use Rattle.std.specs.List.{insert}
use Rattle.std.proofs.lemmas.Bool.{leb-false, lt-leb}
use Rattle.judy_model.specs.WordBytes.{low_bytes}
use Rattle.judy_model.specs.Forms.{bitmap_leaf}
use Rattle.judy_model.specs.Shapes.{AllBelow}
use Rattle.judy_model.proofs.lemmas.forms.FormLemmas.{tight-head}
use Rattle.judy_bits.specs.ByteSets.{has, rank, place}
use Rattle.judy_leaf.specs.KeyLists.{KeyList, keys_of, with_pair, low_pairs, shift}
use Rattle.judy_leaf.specs.Immediates.{imm_room}
use Rattle.judy_node.specs.Trees.{Pairs, Tree, IsTight, IsMap, IsChild}
use Rattle.judy_node.specs.Kinds.{tree_of, IsLevel, imm_tree, imm_pairs, IsImm}
use Rattle.judy_node.specs.Built.{IsBuilt}
use Rattle.judy_node.specs.declared.child.KindOf.{KindOf}
use Rattle.judy_node.proofs.Maps.{map-AllBelow, shift-zero, length-keys_of, length-shift}
use Rattle.judy_node.proofs.Shaped.{tight-parts}
use Rattle.judy_node.proofs.Leaves.{imm_length, imm_some}
use Rattle.judy_node.proofs.ViewFacts.{head_width}
use Rattle.judy_node.proofs.KindFacts.{level-child}
use Rattle.judy_node.proofs.MadeFacts.{low_pairs_same}
use Rattle.judy_change.specs.LeafTrees.{one_bitmap}
use Rattle.judy_change.specs.Inserted.{IsAdded}
use Rattle.judy_change.proofs.PairPlaces.{map-with_pair, has-shift, with_pair-shift, length-with_pair}

-- What a search for a key tells.
pub absent-find : (members : List ℕ) (key : ℕ) (found : Option ℕ) → found ≡ place members key → is_some found ≡ false → has members key ≡ false
absent-find members key found is none = from (has members key) (ap is_some (sym is) ∙ none)
  where
    from : (b : Bool) → is_some (cond b (Some (rank members key)) None) ≡ false → b ≡ false
    from true never = absurd (true≢false never)
    from false _ = refl

-- The bytes of a key make a word.
pub unit_fits : (width : ℕ) → width ≤ 8 → 256 ^ width ≤ 2 ^ 64
unit_fits width most = let bound = pow-le-pow_right {n = 256} (omega arith) most in omega arith

-- A node of any kind that has one key more than a child had, and tells its width or none, is a child too.
pub child-told : {V : _} (words width key value : ℕ) (old : Tree) (kind : KindOf V) → IsChild words width old → IsLevel words kind →
    ((tree_of words kind).width ≢ 0 → (tree_of words kind).width ≡ width)
    → (tree_of words kind).pairs ≡ with_pair key value old.pairs → has (keys_of old.pairs) key ≡ false → key < 256 ^ width → (words ≡ 0 → value ≡ 0) → IsChild words width (tree_of words kind)
child-told words width key value old kind is level wide pairs absent fits free = level-child words width kind level (record {
  low_width = is.low_width;
  high_width = is.high_width;
  wide = wide;
  below =
      subst (λ ps. AllBelow (256 ^ width) (keys_of ps)) (sym pairs) (map-AllBelow words 0 (256 ^ width) (with_pair key value old.pairs)
      (map-with_pair words 0 (256 ^ width) key value old.pairs is.map (omega arith) fits absent free));
})

-- The same for one that tells the width that the child told.
pub child-with : {V : _} (words width key value : ℕ) (old : Tree) (kind : KindOf V) → IsChild words width old → IsLevel words kind → (tree_of words kind).width ≡ old.width
    → (tree_of words kind).pairs ≡ with_pair key value old.pairs → has (keys_of old.pairs) key ≡ false → key < 256 ^ width → (words ≡ 0 → value ≡ 0) → IsChild words width (tree_of words kind)
child-with words width key value old kind is level wide pairs absent fits free =
    child-told words width key value old kind is level (λ (told : (tree_of words kind).width ≢ 0). wide ∙ is.wide (λ none. told (wide ∙ none))) pairs absent fits free

-- Pairs in a slice with one place more, and a pair put in at its rank.
pub filled : (out list pairs : Pairs) (key value at : ℕ) (spare : ℕ × ℕ) → out ≡ shift 0 list → at ≡ rank (keys_of list) key
    → pairs ≡ insert (take (length (out ++ spare ∷ []) - 1) (out ++ spare ∷ [])) at (key, value) → pairs ≡ with_pair key value list
filled out list pairs key value at spare is there put =
    let long = length_push out spare in
    put
    ∙ ap (λ n. insert (take n (out ++ spare ∷ [])) at (key, value)) (let e : length (out ++ spare ∷ []) - 1 ≡ length out = omega arith in e)
    ∙ ap (λ ps. insert ps at (key, value)) (take-append-le (length out) out (spare ∷ []) (omega arith) ∙ take_all (length out) out (omega arith) ∙ is ∙ shift-zero 0 list refl)
    ∙ ap (λ n. insert list n (key, value)) there

-- The same in the front of a longer slice.
pub filled_front : (out list spares slice pairs rest : Pairs) (key value at count : ℕ) → out ≡ shift 0 list → count ≡ length list → count < length spares → at ≡ rank (keys_of list) key
    → slice ≡ take (count + 1) (out ++ drop count spares) → pairs ≡ insert (take (length slice - 1) slice) at (key, value) → take (count + 1) (pairs ++ rest) ≡ with_pair key value list
filled_front out list spares slice pairs rest key value at count is long room there cut put =
    let spare = get_or spares count (0, 0) in
    let as_many : length out ≡ count = ap length is ∙ length-shift 0 list ∙ sym long in
    let pushed = length_push out spare in
    let front : slice ≡ out ++ spare ∷ [] =
    cut ∙ ap (λ xs. take (count + 1) (out ++ xs)) (drop_more spares count (0, 0) room) ∙ ap (take (count + 1)) (sym (append_assoc out (spare ∷ []) (drop (count + 1) spares)))
    ∙ take_at (out ++ spare ∷ []) (drop (count + 1) spares) (count + 1) (omega arith) in
    let whole : pairs ≡ with_pair key value list = filled out list pairs key value at spare is there (put ∙ ap (λ xs. insert (take (length xs - 1) xs) at (key, value)) front) in
    let more = length-with_pair key value list in
    let all = ap length whole in
    take_at pairs rest (count + 1) (omega arith) ∙ whole

-- The same in a slice of nine.
abbrev pub nine : Pairs
nine = (0, 0) ∷ (0, 0) ∷ (0, 0) ∷ (0, 0) ∷ (0, 0) ∷ (0, 0) ∷ (0, 0) ∷ (0, 0) ∷ (0, 0) ∷ []

pub filled_nine : (out list pairs : Pairs) (key value at count : ℕ) → out ≡ shift 0 list → count ≡ length list → count < 9 → at ≡ rank (keys_of list) key
    → pairs ≡ insert (take (length (take (count + 1) (out ++ drop count nine)) - 1) (take (count + 1) (out ++ drop count nine))) at (key, value)
    → take (count + 1) (pairs ++ drop (count + 1) (out ++ drop count nine)) ≡ with_pair key value list
filled_nine out list pairs key value at count is long room there put =
    filled_front out list nine (take (count + 1) (out ++ drop count nine)) pairs (drop (count + 1) (out ++ drop count nine)) key value at count is long room there refl put

-- Sorted pairs, one of them new.
module _ (words width key value : ℕ) (old : Pairs) (map : IsMap words 0 (256 ^ width) old) (absent : has (keys_of old) key ≡ false) (fits : key < 256 ^ width)
    (free : words ≡ 0 → value ≡ 0) (pairs : Pairs)
    (are : pairs ≡ with_pair key value old) where
  pub more-map : IsMap words 0 (256 ^ width) pairs
  more-map = subst (IsMap words 0 (256 ^ width)) (sym are) (map-with_pair words 0 (256 ^ width) key value old map (omega arith) fits absent free)

  pub more-low : IsMap words 0 (256 ^ width) (low_pairs (256 ^ width) pairs)
  more-low = subst (IsMap words 0 (256 ^ width)) (sym (low_pairs_same words 0 (256 ^ width) pairs more-map)) more-map

-- The node made of them.
pub more-added : (words width key value : ℕ) (old : Tree) → IsChild words width old → has (keys_of old.pairs) key ≡ false → key < 256 ^ width → (words ≡ 0 → value ≡ 0) →
    (pairs : Pairs) → pairs ≡ with_pair key value old.pairs
    → (tree : Tree) → IsBuilt words width pairs tree → IsAdded key value old tree
more-added words width key value old is absent fits free pairs are tree built = record {
  absent = absent;
  pairs = built.same ∙ low_pairs_same words 0 (256 ^ width) pairs (more-map words width key value old.pairs is.map absent fits free pairs are) ∙ are;
  tight = λ _. built.tight;
}

pub present-find : (members : List ℕ) (key : ℕ) (found : Option ℕ) → found ≡ place members key → is_some found ≡ true → has members key ≡ true
present-find members key found is some = from (has members key) (ap is_some (sym is) ∙ some)
  where
    from : (b : Bool) → is_some (cond b (Some (rank members key)) None) ≡ true → b ≡ true
    from true _ = refl
    from false never = absurd (true≢false (sym never))

-- ---- bitmap leaves

-- A key is the bytes that a bitmap leaf skips and the last one.
module _ (skipped byte key : ℕ) (is : key ≡ skipped * 256 + byte) (list : KeyList) where
  pub has-bitmap : has (keys_of (shift (skipped * 256) list.pairs)) key ≡ has (keys_of list.pairs) byte
  has-bitmap = ap (has (keys_of (shift (skipped * 256) list.pairs))) is ∙ has-shift (skipped * 256) byte list.pairs

  pub pairs-bitmap : (value : ℕ) → shift (skipped * 256) (with_pair byte value list.pairs) ≡ with_pair key value (shift (skipped * 256) list.pairs)
  pairs-bitmap value = sym (with_pair-shift (skipped * 256) byte value list.pairs) ∙ ap (λ k. with_pair k value (shift (skipped * 256) list.pairs)) (sym is)

  pub tight-bitmap : (value : ℕ) → IsTight (one_bitmap skipped list) → IsTight (one_bitmap skipped (record list { pairs = with_pair byte value list.pairs }))
  tight-bitmap value tight =
      let shared = low_bytes (list.width - 1) skipped in
      let many = leb-false (length (keys_of list.pairs)) 32 (tight-parts (bitmap_leaf shared (keys_of list.pairs)) [] tight).0 in
      let more = length-with_pair byte value list.pairs in
      let old = length-keys_of list.pairs in
      let new = length-keys_of (with_pair byte value list.pairs) in
      tight-head (bitmap_leaf shared (keys_of (with_pair byte value list.pairs))) [] (lt-leb (length (keys_of (with_pair byte value list.pairs))) 32 (omega arith)) refl

-- ---- immediates

-- One that isn't full has keys without values.
pub not_full : (words width head word : ℕ) → words ≤ 1 → IsImm words head word → IsChild words width (imm_tree words head word) → length (imm_pairs words head word) ≢ imm_room words width
    → (words ≡ 0) × (length (imm_pairs words head word) < imm_room words width)
not_full zero width head word one level child apart =
    let wide = head_width width head word level child in
    let long = imm_length (head / 256) (head % 256) word level in
    let most = subst (λ w. head % 256 ≤ 8 / w) wide (imm_some (head / 256) (head % 256) word level).1 in
    (refl, omega arith)
not_full (suc zero) width head word one level child apart = absurd (apart refl)
not_full (suc (suc words)) width head word one level child apart = let never : ⊥ = omega arith in absurd never
