-- The list that a bitmap leaf is.
use Rattle.std.proofs.Common.{◌≡◌, ℕ, zero, suc, ◌+◌, ◌*◌, ◌/◌, ◌^◌, ◌<◌, ◌≤◌, Some, None, true, false, cond, List, [], ◌∷◌, length, take, drop, get_or, is_lt, refl, ap, sym, ◌∙◌}
use Rattle.std.proofs.Common.{subst, arith, get_or-take}
use Rattle.std.proofs.Math.Nat.{pow-suc}
use Rattle.std.proofs.lemmas.Bool.{false_from_ne_true}
use Rattle.std.proofs.lemmas.List.{length-take-le, length-drop, get_or-drop}
use Rattle.std.proofs.lemmas.List.Elements.{All-head, All-tail}
use Rattle.std.specs.List.{All, AllByRecursion}
use Rattle.std.proofs.lemmas.Option.{same_Some, slice_get-get_or}
use Rattle.judy_block.specs.Contents.{Contents}
use Rattle.judy_model.specs.Keys.{word_order}
use Rattle.judy_model.proofs.lemmas.orders.ByteLemmas.{unit_pos}
use Rattle.judy_model.proofs.lemmas.maps.Ascending.{all_among}
use Rattle.judy_bits.specs.ByteSets as set
use Rattle.judy_bits.specs.ByteSets.{IsByteSet}
use Rattle.judy_bits.proofs.SetLemmas.{is_below, filter_all, Among-has}
use Rattle.judy_bits.proofs.MemberLemmas.{length-members_of-le, members_of-IsByteSet}
use Rattle.judy_leaf.specs.KeyLists.{KeyList, keys_of, values_of, pairs_of, IsKeyList}
use Rattle.judy_leaf.specs.BitLeaves.{bit_keys, bit_list, IsBitParts}
use Rattle.judy_leaf.proofs.LeafLists.{keys_of-pairs_of, length-pairs_of, length-keys_of, no_value, value_of, rank_within}

-- The first four words are these.
pub four_words : (words : List ℕ) → 4 ≤ length words → get_or words 0 0 ∷ get_or words 1 0 ∷ get_or words 2 0 ∷ get_or words 3 0 ∷ [] ≡ take 4 words
four_words (a ∷ b ∷ c ∷ d ∷ words) h = refl
four_words [] h = let never : ⊥ = omega arith in absurd never
four_words (a ∷ []) h = let never : ⊥ = omega arith in absurd never
four_words (a ∷ b ∷ []) h = let never : ⊥ = omega arith in absurd never
four_words (a ∷ b ∷ c ∷ []) h = let never : ⊥ = omega arith in absurd never

all_bytes : (xs : List ℕ) → All (λ byte. byte < 256) xs → AllByRecursion (λ byte. byte < 256) xs
all_bytes [] all = tt
all_bytes (x ∷ xs) all = (All-head (λ b. b < 256) x xs all, all_bytes xs (All-tail (λ b. b < 256) x xs all))

weaker : (key : ℕ) (xs : List ℕ) → 256 ≤ key → AllByRecursion (λ byte. byte < 256) xs → AllByRecursion (λ x. is_lt (word_order x key) ≡ true) xs
weaker key [] above all = tt
weaker key (x ∷ xs) above all = (is_below x key (let h = all.0 in omega arith), weaker key xs above all.1)

-- All bytes are below a greater word, and it is none of them.
pub rank_above : (xs : List ℕ) (key : ℕ) → IsByteSet xs → 256 ≤ key → set.rank xs key ≡ length xs
rank_above xs key is above = ap length (filter_all (λ member. is_lt (word_order member key)) xs (weaker key xs above (all_bytes xs is.bytes)))

pub place_above : (xs : List ℕ) (key : ℕ) → IsByteSet xs → 256 ≤ key → None ≡ set.place xs key
place_above xs key is above =
    let absent : set.has xs key ≡ false = false_from_ne_true (set.has xs key) (λ held. let small = all_among (λ b. b < 256) xs key (all_bytes xs is.bytes) (Among-has xs key held) in
    let never : ⊥ = omega arith in absurd never) in
    sym (ap (λ b. cond b (Some (set.rank xs key)) None) absent)

-- The rank of a greater word is the number of keys.
pub bit_rank_above : (pairs : List (ℕ × ℕ)) (key : ℕ) → IsByteSet (keys_of pairs) → 256 ≤ key → length pairs ≡ set.rank (keys_of pairs) key
bit_rank_above pairs key is above = sym (length-keys_of pairs) ∙ sym (rank_above (keys_of pairs) key is above)

pub bit_rank : (pairs : List (ℕ × ℕ)) (rank key : ℕ) → rank ≡ set.rank (keys_of pairs) key → rank ≤ length pairs
bit_rank pairs rank key ranked = let most = rank_within (keys_of pairs) key in let all = length-keys_of pairs in omega arith

-- The key at a place, as the bits give it.
there : (pairs : List (ℕ × ℕ)) (at : ℕ) → at < length pairs → set.nth (keys_of pairs) at ≡ Some (get_or (keys_of pairs) at 0)
there pairs at inside = let all = length-keys_of pairs in slice_get-get_or (keys_of pairs) at 0 (omega arith)

pub bit_key : (pairs : List (ℕ × ℕ)) (at byte : ℕ) → at < length pairs → Some byte ≡ set.nth (keys_of pairs) at → byte ≡ get_or (keys_of pairs) at 0
bit_key pairs at byte inside found = same_Some byte (get_or (keys_of pairs) at 0) (found ∙ there pairs at inside)

pub bit_some : (pairs : List (ℕ × ℕ)) (at : ℕ) → at < length pairs → None ≡ set.nth (keys_of pairs) at → ⊥
bit_some pairs at inside none = let e = none ∙ there pairs at inside in no_some (get_or (keys_of pairs) at 0) e
  where
    no_some : (x : ℕ) → None ≡ Some x → ⊥
    no_some x e = cc

module _ (words : ℕ) (block : Contents) (is : IsBitParts words block) (list : KeyList) (seen : bit_list words block ≡ list) where
  pub bit_keys_are : bit_keys block ≡ keys_of list.pairs
  bit_keys_are = sym (keys_of-pairs_of (bit_keys block) (take (words * length (bit_keys block)) (drop 4 block.words))) ∙ ap (λ l. keys_of l.pairs) seen

  pub bit_length : length list.pairs ≡ length (bit_keys block)
  bit_length = ap (λ l. length l.pairs) (sym seen) ∙ length-pairs_of (bit_keys block) (take (words * length (bit_keys block)) (drop 4 block.words))

  pub bit_set : IsByteSet (keys_of list.pairs)
  bit_set = subst IsByteSet bit_keys_are (members_of-IsByteSet (take 4 block.words))

  -- The list of a bitmap leaf is a list of keys of its node's width.
  pub bit_list_is : IsKeyList list
  bit_list_is =
      let wide = ap (λ l. l.width) seen in
      let some = is.some in
      let most = is.most in
      record {
        some = omega arith;
        most = omega arith;
        ascending = bit_set.ascending;
        below = fit (keys_of list.pairs) (all_bytes (keys_of list.pairs) bit_set.bytes) (byte_fits list.width (omega arith));
      }
    where
      byte_fits : (width : ℕ) → 1 ≤ width → 256 ≤ 256 ^ width
      byte_fits zero some = let never : ⊥ = omega arith in absurd never
      byte_fits (suc width) some = omega (arith, pow-suc 256 width, unit_pos width)

      fit : (xs : List ℕ) → AllByRecursion (λ byte. byte < 256) xs → 256 ≤ 256 ^ list.width → AllByRecursion (λ byte. byte < 256 ^ list.width) xs
      fit [] all wide = tt
      fit (x ∷ xs) all wide = (let small = all.0 in omega arith, fit xs all.1 wide)

  pub bit_most : length list.pairs ≤ 256
  bit_most = subst (λ n. n ≤ 256) (sym bit_length) (length-members_of-le (take 4 block.words))

  pub bit_value_inside : (at : ℕ) → at < length list.pairs → words ≡ 1 → 4 + at < length block.words
  bit_value_inside at inside one =
      let all = bit_length in
      let full = is.full in
      let many : words * length (bit_keys block) ≡ length (bit_keys block) = ap (λ w. w * length (bit_keys block)) one ∙ omega arith in
      omega arith

  pub bit_value : (at value : ℕ) → at < length list.pairs → words ≡ 1 → value ≡ get_or block.words (4 + at) 0 → value ≡ get_or (values_of list.pairs) at 0
  bit_value at value inside one got =
      let all = bit_length in
      let full = is.full in
      let n = length (bit_keys block) in
      let many : words * n ≡ n = ap (λ w. w * n) one ∙ omega arith in
      let rest : length (drop 4 block.words) ≡ n = length-drop 4 block.words ∙ omega arith in
      let long : length (take (words * n) (drop 4 block.words)) ≡ words * n = length-take-le (words * n) (drop 4 block.words) (omega arith) in
      got ∙ sym (get_or-drop 4 block.words at 0) ∙ sym (get_or-take (words * n) (drop 4 block.words) at 0 (omega arith))
      ∙ sym (value_of (bit_keys block) (take (words * n) (drop 4 block.words)) at (omega arith) (omega arith)) ∙ ap (λ l. get_or (values_of l.pairs) at 0) seen

  pub bit_no_value : (at : ℕ) → words ≡ 0 → 0 ≡ get_or (values_of list.pairs) at 0
  bit_no_value at none =
      sym (no_value (bit_keys block) at)
      ∙ ap (λ n. get_or (values_of (pairs_of (bit_keys block) (take n (drop 4 block.words)))) at 0) (let e : 0 ≡
      words * length (bit_keys block) = sym (ap (λ w. w * length (bit_keys block)) none ∙ (let z : 0 * length (bit_keys block) ≡ 0 = omega arith in z)) in e)
      ∙ ap (λ l. get_or (values_of l.pairs) at 0) seen
