-- Leaves, bitmap leaves and immediates without a key.
use Rattle.std.proofs.Common.{◌≡◌, ◌≢◌, ℕ, zero, suc, ◌+◌, ◌-◌, ◌*◌, ◌/◌, ◌%◌, ◌^◌, ◌<◌, ◌≤◌, true, false, true≢false, Some, None, List, [], ◌∷◌, length, get_or, slice_get, sym}
use Rattle.std.proofs.Common.{refl, ap, ◌∙◌, subst, eqb, Bool, Option, MatchOption, ◌⊎◌, ⊎_elim, arith}
use Rattle.std.specs.List.{remove}
use Rattle.std.proofs.lemmas.Nat.{le-div}
use Rattle.std.proofs.lemmas.Option.{slice_get_within}
use Rattle.std.proofs.lemmas.Bool.{lt-leb, leb-false, cases_order}
use Rattle.std.proofs.lemmas.Bool.Decides.{eqb_tells}
use Rattle.judy_model.specs.Forms.{bitmap_leaf, loose_in}
use Rattle.judy_model.specs.WordBytes.{low_bytes}
use Rattle.judy_model.specs.Shapes.{AllBelow, immediate_limit}
use Rattle.judy_model.proofs.lemmas.forms.FormLemmas.{tight-head}
use Rattle.judy_bits.specs.ByteSets as set
use Rattle.judy_block.specs.Contents.{Contents}
use Rattle.judy_leaf.specs.KeyLists.{KeyList, keys_of, values_of, shift}
use Rattle.judy_leaf.specs.Leaves.{leaf_list, IsLeafParts}
use Rattle.judy_leaf.specs.BitLeaves.{bit_list, IsBitParts}
use Rattle.judy_node.specs.Trees.{Pairs, Tree, IsTight, IsMap, IsChild}
use Rattle.judy_node.specs.Kinds.{imm_pairs, leaf_tree, IsLeaf, bit_width, bit_tree, IsBit}
use Rattle.judy_node.proofs.Maps.{map-AllBelow, map-shift, length-shift, length-keys_of}
use Rattle.judy_node.proofs.Leaves.{leaf_long, leaf_width, bit_map, map_list}
use Rattle.judy_node.proofs.KindFacts.{level-child}
use Rattle.judy_node.specs.Kinds.{tree_of, IsLevel}
use Rattle.judy_node.specs.declared.child.KindOf.{KindOf}
use Rattle.judy_node.specs.declared.child.KindOf.TheVariants.{Leaf}
use Rattle.judy_change.specs.LeafTrees.{one_leaf, one_bitmap}
use Rattle.judy_node.proofs.Shaped.{tight-parts}
use Rattle.judy_change.specs.Removals.{value_in, without, IsTightOf, IsGone, IsSettled}
use Rattle.judy_change.proofs.Without.{value-fits, value-above, first_pair, place_there, value-at, value-none, value-shift, without-shift, remove-without, map-without, length-without, value-below}
use Rattle.judy_change.proofs.Sharing.{all-33}

-- ---- leaves

-- The leaf of a list of more keys than an immediate holds.
pub leaf_tight : {V : _} (words width : ℕ) (list : KeyList) (kind : KindOf V) (new : Tree) → IsLevel words kind → tree_of words kind ≡ one_leaf list → list.width ≡ width → 1 ≤ width → width ≤ 8
    → IsMap words 0 (256 ^ width) list.pairs → new ≡ tree_of words kind → IsTightOf words width list.pairs new
leaf_tight words width list kind new level tree wide low high map close =
    subst (IsTightOf words width list.pairs) (sym close)
    (record {
      child = level-child words width kind level
          (record {
            low_width = low;
            high_width = high;
            wide = λ _. ap (λ t. t.width) tree ∙ wide;
            below = subst (λ ps. AllBelow (256 ^ width) (keys_of ps)) (ap (λ t. t.pairs) (sym tree)) (map-AllBelow words 0 (256 ^ width) list.pairs map);
          });
      same = ap (λ t. t.pairs) tree;
      tight = ap (λ t. loose_in t.form) tree;
    })

-- ---- any node

-- The key at a place is taken out of sorted pairs.
module _ (words width key at : ℕ) (pairs : Pairs) (low : 1 ≤ width) (high : width ≤ 8) (map : IsMap words 0 (256 ^ width) pairs) (there : set.place (keys_of pairs) key ≡ Some at) where
  stands : slice_get (keys_of pairs) at ≡ Some key
  stands = place_there (keys_of pairs) key at (map_list words width pairs low high map).ascending there

  pub taken_within : at < length pairs
  taken_within = let inside = slice_get_within (keys_of pairs) at key stands in let long = length-keys_of pairs in omega arith

  pub taken_value : value_in pairs key ≡ Some (get_or (values_of pairs) at 0)
  taken_value = value-at words 0 (256 ^ width) key at pairs map stands

  pub taken_pairs : remove pairs at ≡ without key pairs
  taken_pairs = remove-without words 0 (256 ^ width) key at pairs map stands

  pub taken_length : length (remove pairs at) + 1 ≡ length pairs
  taken_length = ap (λ ps. length ps + 1) taken_pairs ∙ length-without words 0 (256 ^ width) key (get_or (values_of pairs) at 0) pairs map taken_value

  pub taken_map : IsMap words 0 (256 ^ width) (remove pairs at)
  taken_map = subst (IsMap words 0 (256 ^ width)) (sym taken_pairs) (map-without words 0 (256 ^ width) key pairs map)

-- A key is gone, and what is left settled.
pub gone_settled : (words width key value loose : ℕ) (old new : Tree) (left : Pairs) → IsChild words width old → value_in old.pairs key ≡ Some value →
    left ≡ without key old.pairs → (IsTight old → loose ≡ 0) → (IsTight old → 33 ≤ length old.pairs)
    → key < 256 ^ width → (shrunk : _) → IsSettled words width left loose new shrunk → IsGone words width key old new value shrunk
gone_settled words width key value loose old new left child found gone tight many below shrunk settled =
    let fewer = length-without words 0 (256 ^ width) key value old.pairs child.map found in
    record {
      found = found;
      gone = settled.same ∙ gone;
      child = settled.child;
      tight = λ is yes. settled.tight (tight is) yes;
      short = λ is kept.
          let few = settled.short kept in
          let as_many = ap length gone in
          let large = many is in
          all-33 words width key old.pairs below child.map (omega arith);
    }

-- ---- a leaf without a key

immediate_limit_some : (words width : ℕ) → 1 ≤ width → width ≤ 8 → 1 ≤ immediate_limit words width
immediate_limit_some zero width low high = le-div 1 8 width low (omega arith)
immediate_limit_some (suc words) width low high = omega arith

-- A list without the pair at a place.
abbrev pub left_list : KeyList → ℕ → KeyList
left_list list at = record list { pairs = remove list.pairs at }

-- What is left of a leaf's pairs.
pub record IsLeft (words width : ℕ) (pairs : Pairs) (list : KeyList) : Type 0 where
  pub wide : list.width ≡ width
  pub some : 1 ≤ length list.pairs
  pub fewer : length list.pairs + 1 ≡ length pairs
  pub map : IsMap words 0 (256 ^ width) list.pairs

module _ (words width key at count : ℕ) (block : Contents) (level : IsLeaf words count block) (child : IsChild words width (leaf_tree words count block))
    (place : set.place (keys_of (leaf_list words count block).pairs) key ≡ Some at) where
  pub leaf_within : at < length (leaf_list words count block).pairs
  leaf_within = taken_within words width key at (leaf_list words count block).pairs child.low_width child.high_width child.map place

  pub leaf_left : (list : KeyList) → list ≡ record { width = block.tag; pairs = remove (leaf_list words count block).pairs at } → IsLeft words width (leaf_list words count block).pairs list
  leaf_left list is =
      let pairs = (leaf_list words count block).pairs in
      let fits = leaf_width words count block level.parts in
      let low = fits.0 in
      let told : block.tag ≡ width = child.wide (λ (none : block.tag ≡ 0). let never : ⊥ = omega arith in never) in
      let fewer : length list.pairs + 1 ≡ length pairs = ap (λ l. length l.pairs + 1) is ∙ taken_length words width key at pairs child.low_width child.high_width child.map place in
      let some = immediate_limit_some words block.tag fits.0 fits.1 in
      let more = level.more in
      let long = leaf_long words count block level.parts in
      record {
        wide = ap (λ l. l.width) is ∙ told;
        some = omega arith;
        fewer = fewer;
        map = subst (λ l. IsMap words 0 (256 ^ width) l.pairs) (sym is) (taken_map words width key at pairs child.low_width child.high_width child.map place);
      }

  pub leaf_gone : (value : ℕ) (list : KeyList) (new : Tree) → list ≡ record { width = block.tag; pairs = remove (leaf_list words count block).pairs at } →
      value ≡ get_or (values_of (leaf_list words count block).pairs) at 0
      → IsTightOf words width list.pairs new → IsGone words width key (leaf_tree words count block) new value true
  leaf_gone value list new is value_is tight =
      let pairs = (leaf_list words count block).pairs in
      record {
        found = taken_value words width key at pairs child.low_width child.high_width child.map place ∙ ap Some (sym value_is);
        gone = tight.same ∙ ap (λ l. l.pairs) is ∙ taken_pairs words width key at pairs child.low_width child.high_width child.map place;
        child = tight.child;
        tight = λ _ _. tight.tight;
        short = λ _ never. absurd (true≢false never);
      }

  -- The leaf is changed where it stands, and is one still.
  pub leaf_stays : (left : ℕ) (after : Contents) → IsLeafParts words left after → leaf_list words left after ≡ left_list (leaf_list words count block) at →
      immediate_limit words width + 1 < count → IsLeaf words left after
  leaf_stays left after parts is many =
      let fewer = (leaf_left (leaf_list words left after) is).fewer in
      let wide = (leaf_left (leaf_list words left after) is).wide in
      let long = leaf_long words left after parts in
      let were = leaf_long words count block level.parts in
      record { parts = parts; more = subst (λ w. immediate_limit words w < left) (sym wide) (omega arith) }

  pub leaf_gone-here : (left value : ℕ) (after : Contents) → IsLeaf words left after → leaf_list words left after ≡ left_list (leaf_list words count block) at →
      value ≡ get_or (values_of (leaf_list words count block).pairs) at 0
      → IsGone words width key (leaf_tree words count block) (leaf_tree words left after) value true
  leaf_gone-here left value after stays is value_is =
      let list = leaf_list words left after in
      let kept = leaf_left list is in
      leaf_gone value list (leaf_tree words left after) is value_is (leaf_tight {V = ℕ} words width list (Leaf left after)
      (leaf_tree words left after) stays refl kept.wide child.low_width child.high_width kept.map refl)

-- ---- a bitmap leaf without a key

pub bit_wide : (words width skipped : ℕ) (block : Contents) → IsBit words skipped block → IsChild words width (bit_tree words skipped block) → bit_width block ≡ width
bit_wide words width skipped block level child =
    let low = level.parts.some in
    child.wide (λ (none : bit_width block ≡ 0). let never : ⊥ = omega arith in never)

-- No key but those behind the skipped bytes is there.
pub other_key : (words skipped key : ℕ) (pairs : Pairs) → IsMap words 0 256 pairs → key / 256 ≢ skipped → value_in (shift (skipped * 256) pairs) key ≡ None
other_key words skipped key pairs map apart = ⊎_elim
    (λ (below : key / 256 < skipped). value-below words (skipped * 256 + 0) (skipped * 256 + 256) key (shift (skipped * 256) pairs) (omega arith) (map-shift words 0 256 (skipped * 256) pairs map))
    (λ (above : skipped < key / 256). value-above words (skipped * 256 + 0) (skipped * 256 + 256) key (shift (skipped * 256) pairs) (omega arith) (map-shift words 0 256 (skipped * 256) pairs map))
    (ne_or (key / 256) skipped apart)
  where
    ne_or : (one other : ℕ) → one ≢ other → (one < other) ⊎ (other < one)
    ne_or one other apart = ⊎_elim (λ same. absurd (apart same)) (λ h. h) (cases_order one other)

-- What a search in a bitmap leaf tells.
pub bit_none : (words skipped key : ℕ) (pairs : Pairs) → IsMap words 0 256 pairs → (key / 256 ≡ skipped → set.place (keys_of pairs) (key % 256) ≡ None) →
    value_in (shift (skipped * 256) pairs) key ≡ None
bit_none words skipped key pairs map none = ⊎_elim
    (λ (h : (eqb (key / 256) skipped ≡ true) × (key / 256 ≡ skipped)).
    let key_is : skipped * 256 + key % 256 ≡ key = let same = h.1 in omega arith in
    subst (λ k. value_in (shift (skipped * 256) pairs) k ≡ None) key_is (value-shift (skipped * 256) (key % 256) pairs ∙ value-none pairs (key % 256) (none h.1)))
    (λ (h : (eqb (key / 256) skipped ≡ false) × (key / 256 ≢ skipped)). other_key words skipped key pairs map h.1)
    (eqb_tells (key / 256) skipped)

module _ (words width key at skipped : ℕ) (block : Contents) (level : IsBit words skipped block) (child : IsChild words width (bit_tree words skipped block))
    (along : key / 256 ≡ skipped) (place : set.place (keys_of (bit_list words block).pairs) (key % 256) ≡ Some at) where
  inner_map : IsMap words 0 (256 ^ 1) (bit_list words block).pairs
  inner_map = bit_map words block

  key_is : skipped * 256 + key % 256 ≡ key
  key_is = let same = along in omega arith

  pub bit_there : slice_get (keys_of (bit_list words block).pairs) at ≡ Some (key % 256)
  bit_there = stands words 1 (key % 256) at (bit_list words block).pairs (omega arith) (omega arith) inner_map place

  pub bit_within : at < length (bit_list words block).pairs
  bit_within = taken_within words 1 (key % 256) at (bit_list words block).pairs (omega arith) (omega arith) inner_map place

  pub bit_found : value_in (bit_tree words skipped block).pairs key ≡ Some (get_or (values_of (bit_list words block).pairs) at 0)
  bit_found = subst (λ k. value_in (shift (skipped * 256) (bit_list words block).pairs) k ≡ Some (get_or (values_of (bit_list words block).pairs) at 0)) key_is
      (value-shift (skipped * 256) (key % 256) (bit_list words block).pairs ∙ taken_value words 1 (key % 256) at (bit_list words block).pairs (omega arith) (omega arith) inner_map place)

  pub bit_left : shift (skipped * 256) (remove (bit_list words block).pairs at) ≡ without key (bit_tree words skipped block).pairs
  bit_left = subst (λ k. shift (skipped * 256) (remove (bit_list words block).pairs at) ≡ without k (shift (skipped * 256) (bit_list words block).pairs)) key_is
      (ap (shift (skipped * 256)) (taken_pairs words 1 (key % 256) at (bit_list words block).pairs (omega arith) (omega arith) inner_map place) ∙
      sym (without-shift (skipped * 256) (key % 256) (bit_list words block).pairs))

  pub bit_fewer : length (remove (bit_list words block).pairs at) + 1 ≡ length (bit_list words block).pairs
  bit_fewer = taken_length words 1 (key % 256) at (bit_list words block).pairs (omega arith) (omega arith) inner_map place

  pub bit_fits : key < 256 ^ width
  bit_fits = value-fits words 0 (256 ^ width) key (get_or (values_of (bit_list words block).pairs) at 0) (bit_tree words skipped block).pairs child.map bit_found

  -- The bitmap leaf is changed where it stands, and is one still.
  pub bit_stays : (after : Contents) → IsBitParts words after → bit_list words after ≡ left_list (bit_list words block) at → 33 < length (bit_list words block).pairs → IsBit words skipped after
  bit_stays after parts is many =
      let fewer = bit_fewer in
      let long = ap (λ l. length l.pairs) is in
      record { parts = parts; some = omega arith; skips = subst (λ w. skipped < 256 ^ (w - 1)) (sym (ap (λ l. l.width) is)) level.skips }

-- The node of what is left.
pub kind_left : {V : _} (words width key : ℕ) (old : Tree) (kind : KindOf V) → IsLevel words kind → IsChild words width old → (tree_of words kind).width ≡ width →
    (tree_of words kind).pairs ≡ without key old.pairs → IsChild words width (tree_of words kind)
kind_left words width key old kind level child wide left =
    level-child words width kind level (record {
      low_width = child.low_width;
      high_width = child.high_width;
      wide = λ _. wide;
      below = subst (λ ps. AllBelow (256 ^ width) (keys_of ps)) (sym left) (map-AllBelow words 0 (256 ^ width) (without key old.pairs) (map-without words 0 (256 ^ width) key old.pairs child.map));
    })

-- ---- an immediate without a key

-- Only an immediate without values has more keys than one.
pub imm_more : (words head word : ℕ) → length (imm_pairs words head word) ≢ 1 → words ≡ 0
imm_more zero head word apart = refl
imm_more (suc words) head word apart = absurd (apart refl)

-- One pair with a key's value is that pair.
pub one_pair : (pairs : Pairs) (key value : ℕ) → length pairs ≡ 1 → value_in pairs key ≡ Some value → pairs ≡ (key, value) ∷ []
one_pair [] key value one some = cc
one_pair (pair ∷ []) key value one some = first_pair pair key value some
one_pair (pair ∷ other ∷ pairs) key value one some = let never : ⊥ = omega arith in absurd never

-- ---- the nodes of what is left

-- A bitmap leaf that isn't loose has more than 32 keys.
bit_many : (words skipped : ℕ) (block : Contents) → IsTight (bit_tree words skipped block) → 33 ≤ length (bit_tree words skipped block).pairs
bit_many words skipped block tight =
    let node = bitmap_leaf (low_bytes (bit_width block - 1) skipped) (keys_of (bit_list words block).pairs) in
    let keys = length-keys_of (bit_list words block).pairs in
    let moved = length-shift (skipped * 256) (bit_list words block).pairs in
    let many = leb-false (length (keys_of (bit_list words block).pairs)) 32 (tight-parts node [] tight).0 in
    omega arith

module _ {V : _} (words width key at skipped : ℕ) (block : Contents) (level : IsBit words skipped block) (child : IsChild words width (bit_tree words skipped block))
    (along : key / 256 ≡ skipped) (place : set.place (keys_of (bit_list words block).pairs) (key % 256) ≡ Some at)
    (kind : KindOf V) (new : Tree) (level_new : IsLevel words kind) (tree : tree_of words kind ≡ one_bitmap skipped (left_list (bit_list words block) at)) (close : new ≡ tree_of words kind) where
  left_is : new.pairs ≡ without key (bit_tree words skipped block).pairs
  left_is = ap (λ t. t.pairs) (close ∙ tree) ∙ bit_left words width key at skipped block level child along place

  pub bit_child : IsChild words width new
  bit_child = subst (IsChild words width) (sym close)
      (kind_left words width key (bit_tree words skipped block) kind level_new child (ap (λ t. t.width) tree ∙ bit_wide words width skipped block level child)
      (ap (λ t. t.pairs) tree ∙ bit_left words width key at skipped block level child along place))

  pub bit_long : length new.pairs + 1 ≡ length (bit_list words block).pairs
  bit_long =
      ap (λ t. length t.pairs + 1) (close ∙ tree) ∙ ap (λ n. n + 1) (length-shift (skipped * 256) (remove (bit_list words block).pairs at)) ∙
      bit_fewer words width key at skipped block level child along place

  pub bit_gone : (value : ℕ) (last : Tree) (shrunk : Bool) → value ≡ get_or (values_of (bit_list words block).pairs) at 0 → IsSettled words width new.pairs 0 last shrunk →
      IsGone words width key (bit_tree words skipped block) last value shrunk
  bit_gone value last shrunk value_is settled =
      gone_settled words width key value 0 (bit_tree words skipped block) last new.pairs child (bit_found words width key at skipped block level child along place ∙ ap Some (sym value_is))
      left_is (λ _. refl)
      (bit_many words skipped block) (bit_fits words width key at skipped block level child along place) shrunk settled

  pub bit_kept : 33 < length (bit_list words block).pairs → IsSettled words width new.pairs 0 new true
  bit_kept many =
      let keys = length-keys_of (remove (bit_list words block).pairs at) in
      let fewer = bit_fewer words width key at skipped block level child along place in
      record {
        child = bit_child;
        same = refl;
        tight = λ _ _. ap (λ t. loose_in t.form) (close ∙ tree)
            ∙ tight-head (bitmap_leaf (low_bytes (bit_width block - 1) skipped) (keys_of (remove (bit_list words block).pairs at))) []
            (lt-leb (length (keys_of (remove (bit_list words block).pairs at))) 32 (omega arith)) refl;
        short = λ never. absurd (true≢false never);
      }

-- What a search in a bitmap leaf answers.
pub find_told : (found : Option ℕ) (keys : List ℕ) (key skipped : ℕ) → found ≡ set.place keys (key % 256) → key / 256 ≡ skipped
    → MatchOption found (key / 256 ≡ skipped → set.place keys (key % 256) ≡ None) (λ at. (key / 256 ≡ skipped) × (set.place keys (key % 256) ≡ Some at))
find_told None keys key skipped is along = λ _. sym is
find_told (Some at) keys key skipped is along = (along, sym is)
