-- The list that a leaf is, from its keys and values.
use Rattle.std.proofs.Common.{◌≡◌, ℕ, zero, suc, ◌*◌, ◌^◌, ◌<◌, ◌≤◌, List, [], ◌∷◌, length, take, drop, get_or, refl, ap, sym, ◌∙◌, subst, arith, get_or-take}
use Rattle.std.proofs.lemmas.List.{length-take-le}
use Rattle.std.specs.List.{AllByRecursion}
use Rattle.std.specs.List.Sorted.{IsStrictlySortedBy}
use Rattle.judy_model.specs.Keys.{word_order}
use Rattle.judy_model.proofs.lemmas.queries.Places.{length-filter-le}
use Rattle.judy_block.specs.Contents.{Contents}
use Rattle.judy_bits.specs.ByteSets as set
use Rattle.judy_leaf.specs.Packing.{places_of}
use Rattle.judy_leaf.specs.KeyLists.{KeyList, keys_of, values_of, pairs_of, IsKeyList}
use Rattle.judy_leaf.specs.Leaves.{keys_from, AreKeysFrom, IsLeafParts, leaf_list}
use Rattle.judy_leaf.proofs.Placed.{length-places_of}
use Rattle.judy_leaf.proofs.KeysIn.{keys_below_unit}

pub keys_of-pairs_of : (keys values : List ℕ) → keys_of (pairs_of keys values) ≡ keys
keys_of-pairs_of [] values = refl
keys_of-pairs_of (key ∷ keys) [] = ap (λ rest. key ∷ rest) (keys_of-pairs_of keys [])
keys_of-pairs_of (key ∷ keys) (value ∷ values) = ap (λ rest. key ∷ rest) (keys_of-pairs_of keys values)

pub length-keys_of : (pairs : List (ℕ × ℕ)) → length (keys_of pairs) ≡ length pairs
length-keys_of [] = refl
length-keys_of (pair ∷ pairs) = ap suc (length-keys_of pairs)

pub length-pairs_of : (keys values : List ℕ) → length (pairs_of keys values) ≡ length keys
length-pairs_of [] values = refl
length-pairs_of (key ∷ keys) [] = ap suc (length-pairs_of keys [])
length-pairs_of (key ∷ keys) (value ∷ values) = ap suc (length-pairs_of keys values)

-- Where there are no values, each is 0.
pub no_value : (keys : List ℕ) (at : ℕ) → get_or (values_of (pairs_of keys [])) at 0 ≡ 0
no_value [] at = refl
no_value (key ∷ keys) zero = refl
no_value (key ∷ keys) (suc at) = no_value keys at

pub value_of : (keys values : List ℕ) (at : ℕ) → at < length keys → at < length values → get_or (values_of (pairs_of keys values)) at 0 ≡ get_or values at 0
value_of [] values at inside there = let never : ⊥ = omega arith in absurd never
value_of (key ∷ keys) [] at inside there = let never : ⊥ = omega arith in absurd never
value_of (key ∷ keys) (value ∷ values) zero inside there = refl
value_of (key ∷ keys) (value ∷ values) (suc at) inside there = value_of keys values at (omega arith) (omega arith)

-- No rank is above the number of keys.
pub rank_within : (keys : List ℕ) (key : ℕ) → set.rank keys key ≤ length keys
rank_within keys key = length-filter-le _ keys

pub count_within : (keys : List ℕ) (number : ℕ) → set.count_up_to keys number ≤ length keys
count_within keys number = length-filter-le _ keys

-- ---- a leaf

pub length-keys_from : (width count start : ℕ) (block : Contents) → AreKeysFrom width count start block → length (keys_from width count start block) ≡ count
length-keys_from width count start block are =
    let room = are.packed.enough in
    length-take-le count (places_of width (drop start block.words)) (subst (λ n. count ≤ n) (sym (length-places_of width are.packed.is_width (drop start block.words))) room)

module _ (words count : ℕ) (block : Contents) (is : IsLeafParts words count block) where
  pub leaf_keys : keys_of (leaf_list words count block).pairs ≡ keys_from block.tag count (words * count) block
  leaf_keys = keys_of-pairs_of (keys_from block.tag count (words * count) block) (take (words * count) block.words)

  pub leaf_length : length (leaf_list words count block).pairs ≡ count
  leaf_length = length-pairs_of (keys_from block.tag count (words * count) block) (take (words * count) block.words) ∙ length-keys_from block.tag count (words * count) block is.keys

  -- The value at a place is the word there.
  pub leaf_value : (at : ℕ) → at < count → words ≡ 1 → get_or block.words at 0 ≡ get_or (values_of (leaf_list words count block).pairs) at 0
  leaf_value at inside one =
      let keys = keys_from block.tag count (words * count) block in
      let long = length-keys_from block.tag count (words * count) block is.keys in
      let many : words * count ≡ count = ap (λ n. n * count) one ∙ omega arith in
      let exact = is.keys.exact in
      let all : length (take (words * count) block.words) ≡ words * count = length-take-le (words * count) block.words (omega arith) in
      sym (get_or-take (words * count) block.words at 0 (omega arith)) ∙ sym (value_of keys (take (words * count) block.words) at (omega arith) (omega arith))

  pub leaf_no_value : (at : ℕ) → words ≡ 0 → 0 ≡ get_or (values_of (leaf_list words count block).pairs) at 0
  leaf_no_value at none =
      let keys = keys_from block.tag count (words * count) block in
      sym (ap (λ n. get_or (values_of (pairs_of keys (take n block.words))) at 0) (ap (λ n. n * count) none ∙ (let e : 0 * count ≡ 0 = omega arith in e)) ∙ no_value keys at)

-- ---- a leaf that is read

-- Keys as they stand are those of the pairs, and ascend.
pub record Stands (pairs : List (ℕ × ℕ)) (keys : List ℕ) : Type 0 where
  pub same : keys ≡ keys_of pairs
  pub ascending : IsStrictlySortedBy word_order (keys_of pairs)

module _ (words count : ℕ) (block : Contents) (is : IsLeafParts words count block) (list : KeyList) (seen : leaf_list words count block ≡ list) where
  pub read_length : length list.pairs ≡ count
  read_length = ap (λ l. length l.pairs) (sym seen) ∙ leaf_length words count block is

  pub read_keys : (width : ℕ) → block.tag ≡ width → (w n s : ℕ) → w ≡ width → n ≡ count → s ≡ words → keys_from w n (s * n) block ≡ keys_of list.pairs
  read_keys width tagged w n s p q r =
      (λ t. keys_from ((p ∙ sym tagged) t) (q t) (r t * q t) block) ∙ sym (leaf_keys words count block is) ∙ ap (λ l. keys_of l.pairs) seen

  -- The list of a leaf is a list of keys of its width.
  pub read_list : IsKeyList list
  read_list = subst IsKeyList seen (record {
    some = is.keys.packed.is_width.some;
    most = is.keys.packed.is_width.most;
    ascending = subst (IsStrictlySortedBy word_order) (sym (leaf_keys words count block is)) is.ascending;
    below = subst (AllByRecursion (λ key. key < 256 ^ block.tag)) (sym (leaf_keys words count block is)) (keys_below_unit block.tag count (drop (words * count) block.words));
  })

  pub read_rank : (rank key : ℕ) → rank ≡ set.rank (keys_of list.pairs) key → rank ≤ length list.pairs
  read_rank rank key ranked =
      let most = rank_within (keys_of list.pairs) key in
      let long = length-keys_of list.pairs in
      omega arith

  pub read_value : (at value : ℕ) → at < length list.pairs → words ≡ 1 → value ≡ get_or block.words at 0 → value ≡ get_or (values_of list.pairs) at 0
  read_value at value inside one got = got ∙ leaf_value words count block is at (subst (λ n. at < n) read_length inside) one ∙ ap (λ l. get_or (values_of l.pairs) at 0) seen

  pub read_no_value : (at : ℕ) → words ≡ 0 → 0 ≡ get_or (values_of list.pairs) at 0
  read_no_value at none = leaf_no_value words count block is at none ∙ ap (λ l. get_or (values_of l.pairs) at 0) seen

  -- The word of a value is one of the block's.
  pub value_inside : (at : ℕ) → at < length list.pairs → words ≡ 1 → at < length block.words
  value_inside at inside one =
      let exact = is.keys.exact in
      let long = read_length in
      let many : words * count ≡ count = ap (λ n. n * count) one ∙ omega arith in
      omega arith
