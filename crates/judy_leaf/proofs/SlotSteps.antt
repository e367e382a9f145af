-- Another value at a place.
use Rattle.std.proofs.Common.{◌≡◌, ℕ, zero, suc, ◌+◌, ◌*◌, ◌/◌, ◌<◌, List, [], ◌∷◌, length, take, drop, set, refl, ap, sym, ◌∙◌, subst, arith}
use Rattle.std.specs.List.Sorted.{IsStrictlySortedBy}
use Rattle.std.proofs.lemmas.List.{drop-set-lt, length-set, length-take-le}
use Rattle.std.proofs.Math.Seq.{take-set-lt}
use Rattle.judy_model.specs.Keys.{word_order}
use Rattle.judy_block.specs.Contents.{Contents}
use Rattle.judy_leaf.specs.Packing.{keys_in, IsPacked}
use Rattle.judy_leaf.specs.KeyLists.{KeyList, pairs_of, valued, with_value_at}
use Rattle.judy_leaf.specs.Leaves.{keys_from, leaf_list, IsLeafParts}
use Rattle.judy_bits.specs.BitWords.{members_of}
use Rattle.judy_leaf.specs.BitLeaves.{bit_keys, bit_list, IsBitParts}
use Rattle.judy_leaf.proofs.BitLists.{bit_length, bit_value_inside}
use Rattle.judy_leaf.proofs.BitSteps.{all_values, as_many}
use Rattle.judy_leaf.proofs.LeafLists.{length-keys_from}

valued-pairs_of : (keys values : List ℕ) (at value : ℕ) → at < length keys → at < length values → pairs_of keys (set values at value) ≡ valued at (pairs_of keys values) value
valued-pairs_of [] values at value inside there = let never : ⊥ = omega arith in absurd never
valued-pairs_of (key ∷ keys) [] at value inside there = let never : ⊥ = omega arith in absurd never
valued-pairs_of (key ∷ keys) (v ∷ values) zero value inside there = refl
valued-pairs_of (key ∷ keys) (v ∷ values) (suc at) value inside there = ap (λ rest. (key, v) ∷ rest) (valued-pairs_of keys values at value (omega arith) (omega arith))

pub leaf_valued : (words count at value : ℕ) (block : Contents) → IsLeafParts words count block → words ≡ 1 → at < count
    → IsLeafParts words count (record block { words = set block.words at value }) × (leaf_list words count (record block { words = set block.words at value }) ≡
    with_value_at at (leaf_list words count block) value)
leaf_valued words count at value block is one inside =
    let start = words * count in
    let many : words * count ≡ count = ap (λ w. w * count) one ∙ omega arith in
    let exact = is.keys.exact in
    let behind : drop start (set block.words at value) ≡ drop start block.words = drop-set-lt start block.words at value (omega arith) in
    let before : take start (set block.words at value) ≡ set (take start block.words) at value = take-set-lt start block.words at value (omega arith) in
    let keys = keys_from block.tag count start block in
    let long = length-keys_from block.tag count start block is.keys in
    let values : length (take start block.words) ≡ start = length-take-le start block.words (omega arith) in (
      record {
        one = is.one;
        keys = record { few = is.keys.few; exact = length-set block.words at value ∙ exact; packed = subst (IsPacked block.tag count) (sym behind) is.keys.packed };
        ascending = subst (λ ws. IsStrictlySortedBy word_order (keys_in block.tag count ws)) (sym behind) is.ascending;
      },
      (λ t. record {
        width = block.tag;
        pairs = ((λ j. pairs_of (keys_in block.tag count (behind j)) (before j)) ∙ valued-pairs_of keys (take start block.words) at value (omega arith) (omega arith)) t;
      }),
    )

-- ---- a bitmap leaf

words_after : (words : List ℕ) (at value : ℕ) → 4 + at < length words → (take 4 (set words (4 + at) value) ≡ take 4 words) × (drop 4 (set words (4 + at) value) ≡ set (drop 4 words) at value)
words_after (a ∷ b ∷ c ∷ d ∷ words) at value inside =
    let e : 4 + at ≡ suc (suc (suc (suc at))) = omega arith in
    (ap (λ n. take 4 (set (a ∷ b ∷ c ∷ d ∷ words) n value)) e, ap (λ n. drop 4 (set (a ∷ b ∷ c ∷ d ∷ words) n value)) e)
words_after [] at value inside = let never : ⊥ = omega arith in absurd never
words_after (a ∷ []) at value inside = let never : ⊥ = omega arith in absurd never
words_after (a ∷ b ∷ []) at value inside = let never : ⊥ = omega arith in absurd never
words_after (a ∷ b ∷ c ∷ []) at value inside = let never : ⊥ = omega arith in absurd never

module _ (words at value : ℕ) (block : Contents) (is : IsBitParts words block) (list : KeyList) (seen : bit_list words block ≡ list) (one : words ≡ 1) (inside : at < length list.pairs) where
  there : 4 + at < length block.words
  there = bit_value_inside words block is list seen at inside one

  pub bit_valued : IsBitParts words (record block { words = set block.words (4 + at) value })
  bit_valued =
      let keys = ap members_of (words_after block.words at value there).0 in
      record {
        one = is.one;
        some = is.some;
        most = is.most;
        count = is.count ∙ ap length (sym keys);
        full = length-set block.words (4 + at) value ∙ is.full ∙ ap (λ ks. 4 + words * length ks) (sym keys);
      }

  pub bit_written : bit_list words (record block { words = set block.words (4 + at) value }) ≡ with_value_at at list value
  bit_written =
      let keys = bit_keys block in
      let many = bit_length words block is list seen in
      let all = as_many words block is one in
      (λ t. record {
        width = block.tag / 65536;
        pairs = (ap (pairs_of (bit_keys (record block { words = set block.words (4 + at) value }))) (all_values words (record block { words = set block.words (4 + at) value }) bit_valued)
            ∙ (λ j. pairs_of (members_of ((words_after block.words at value there).0 j)) ((words_after block.words at value there).1 j))
            ∙ valued-pairs_of keys (drop 4 block.words) at value (omega arith) (omega arith)
            ∙ ap (λ values. valued at (pairs_of keys values) value) (sym (all_values words block is))) t;
      })
      ∙ ap (λ l. with_value_at at l value) seen
