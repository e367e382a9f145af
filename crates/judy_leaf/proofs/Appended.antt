-- The pairs of a leaf written into its block one part after the other: the values, then the keys.
use Rattle.std.proofs.Common.{◌≡◌, ℕ, zero, suc, ◌+◌, ◌-◌, ◌*◌, ◌/◌, ◌%◌, ◌^◌, ◌<◌, ◌≤◌, List, [], ◌∷◌, ◌++◌, length, take, drop, replicate, get_or, set, refl, ap, sym, ◌∙◌, subst}
use Rattle.std.proofs.Common.{arith, append_assoc, length-append}
use Rattle.std.specs.List.{AllByRecursion, insert}
use Rattle.std.proofs.Math.Nat.{div-eq_of_lt, div-eq_of_lt-le, mod-eq_of_lt}
use Rattle.std.proofs.lemmas.Nat.{mod_below}
use Rattle.std.proofs.lemmas.List.{append-nil, take_all, drop_all, take_more, take_more_set, length-replicate, take-append-le}
use Rattle.judy_block.specs.Contents.{Contents, with_gap}
use Rattle.judy_leaf.specs.Packing.{IsPacked, HasZeroPadding, IsWidth}
use Rattle.judy_leaf.specs.KeyLists.{keys_of, values_of, pairs_of, low_pairs}
use Rattle.judy_leaf.specs.Leaves.{words_for, keys_from, leaf_list, AreKeysFrom}
use Rattle.judy_leaf.specs.KeyChanges.{IsKeyChange}
use Rattle.judy_leaf.proofs.Placed.{per_pos}
use Rattle.judy_leaf.proofs.Filled.{insert_last}
use Rattle.judy_leaf.proofs.WholeWords.{keys_are, fits_word, words_are, packed_words}

-- ---- values

pub length-values : (pairs : List (ℕ × ℕ)) → length (values_of pairs) ≡ length pairs
length-values [] = refl
length-values (pair ∷ pairs) = ap suc (length-values pairs)

value_at : (pairs : List (ℕ × ℕ)) (at : ℕ) → at < length pairs → (get_or pairs at (0, 0)).1 ≡ get_or (values_of pairs) at 0
value_at [] at inside = let never : ⊥ = omega arith in absurd never
value_at (pair ∷ pairs) zero inside = refl
value_at (pair ∷ pairs) (suc at) inside = value_at pairs at (omega arith)

-- A gap behind all words.
pub gap_behind : (words : List ℕ) (start n : ℕ) → start ≡ length words → with_gap start n words ≡ words ++ replicate n 0
gap_behind words start n end =
    (λ t. take_all start words (omega arith) t ++ (replicate n 0 ++ drop_all start words (omega arith) t)) ∙ ap (λ l. words ++ l) (append-nil (replicate n 0))

pub gap_front : (words : List ℕ) (start n : ℕ) → start ≡ length words → take start (words ++ replicate n 0) ≡ words
gap_front words start n end = take-append-le start words (replicate n 0) (omega arith) ∙ take_all start words (omega arith)

pub none_written : (words : List ℕ) (start : ℕ) → take (start + 0) words ≡ take start words ++ []
none_written words start = ap (λ n. take n words) (let e : start + 0 ≡ start = omega arith in e) ∙ sym (append-nil (take start words))

pub gap_length : (words : List ℕ) (n : ℕ) → length (words ++ replicate n 0) ≡ length words + n
gap_length words n = length-append words (replicate n 0) ∙ ap (λ k. length words + k) (length-replicate n 0)

-- The next value written.
pub value_written : (words front : List ℕ) (pairs : List (ℕ × ℕ)) (start place at : ℕ) → place ≡ start + at → place < length words → at < length pairs →
    take (start + at) words ≡ front ++ take at (values_of pairs)
    → take (start + (at + 1)) (set words place (get_or pairs at (0, 0)).1) ≡ front ++ take (at + 1) (values_of pairs)
value_written words front pairs start place at is room inside so_far =
    let long = length-values pairs in
    let next : start + (at + 1) ≡ place + 1 = omega arith in
    let value = (get_or pairs at (0, 0)).1 in
    ap (λ n. take n (set words place value)) next
    ∙ take_more_set words place value room
    ∙ ap (λ l. l ++ value ∷ []) (ap (λ n. take n words) is ∙ so_far)
    ∙ append_assoc front (take at (values_of pairs)) (value ∷ [])
    ∙ ap (λ v. front ++ (take at (values_of pairs) ++ v ∷ [])) (value_at pairs at inside)
    ∙ ap (λ l. front ++ l) (sym (take_more (values_of pairs) at 0 (omega arith)))

-- All values written.
pub appended : (before gap after : Contents) (pairs : List (ℕ × ℕ)) (start at : ℕ) → gap ≡ record before { words = with_gap start (length pairs) before.words } → start ≡ length before.words
    → after.capacity ≡ gap.capacity → after.tag ≡ gap.tag → length after.words ≡ length gap.words → at ≡ length pairs
    → take (start + at) after.words ≡ take start gap.words ++ take at (values_of pairs) → after ≡ record before { words = before.words ++ values_of pairs }
appended before gap after pairs start at opened is capacity tag long end so_far =
    let values = length-values pairs in
    let behind : gap.words ≡ before.words ++ replicate (length pairs) 0 = ap (λ b. b.words) opened ∙ gap_behind before.words start (length pairs) is in
    let all = ap length behind ∙ gap_length before.words (length pairs) in
    let front : take start gap.words ≡ before.words = ap (take start) behind ∙ gap_front before.words start (length pairs) is in
    let words : after.words ≡ before.words ++ values_of pairs =
    sym (take_all (start + at) after.words (omega arith)) ∙ so_far ∙ (λ t. front t ++ take_all at (values_of pairs) (omega arith) t) in
    λ t. record { words = words t; capacity = (capacity ∙ ap (λ b. b.capacity) opened) t; tag = (tag ∙ ap (λ b. b.tag) opened) t }

-- ---- keys

pub length-keys_low : (unit : ℕ) (pairs : List (ℕ × ℕ)) → length (keys_of (low_pairs unit pairs)) ≡ length pairs
length-keys_low unit [] = refl
length-keys_low unit (pair ∷ pairs) = ap suc (length-keys_low unit pairs)

pub key_low : (unit : ℕ) (pairs : List (ℕ × ℕ)) (at : ℕ) → at < length pairs → (get_or pairs at (0, 0)).0 % unit ≡ get_or (keys_of (low_pairs unit pairs)) at 0
key_low unit [] at inside = let never : ⊥ = omega arith in absurd never
key_low unit (pair ∷ pairs) zero inside = refl
key_low unit (pair ∷ pairs) (suc at) inside = key_low unit pairs at (omega arith)

-- No keys yet, behind all words.
pub none_behind : (width start : ℕ) (block : Contents) (keys : List ℕ) → IsWidth width → length block.words ≡ start → IsKeyChange width start 0 0 (λ _. take 0 keys) block block
none_behind width start block keys is end =
    let some = per_pos width is in
    let no_words : words_for width 0 ≡ 0 = div-eq_of_lt (omega arith) in
    let behind : drop start block.words ≡ [] = drop_all start block.words (omega arith) in
    record {
      capacity = refl;
      tag = refl;
      front = refl;
      keys = record {
        few = omega arith;
        exact = end ∙ (let e : start ≡ start + words_for width 0 = omega arith in e);
        packed =
            subst (IsPacked width 0) (sym behind) (record { is_width = is; enough = omega arith; clear = ap (λ n. replicate n 0) (let e : 0 ≡ 0 * (8 / width) - 0 = omega arith in e); tight = tt });
      };
      changed = refl;
    }

-- The next key, behind those before.
pub key_behind : (width start at key : ℕ) (keys : List ℕ) (first before after : Contents) → at < length keys → key ≡ get_or keys at 0 → IsKeyChange width start 0 at (λ _. take at keys) first before
    → IsKeyChange width start at (at + 1) (λ l. insert l at key) before after → IsKeyChange width start 0 (at + 1) (λ _. take (at + 1) keys) first after
key_behind width start at key keys first before after inside is so_far put = record {
  capacity = put.capacity ∙ so_far.capacity;
  tag = put.tag ∙ so_far.tag;
  front = put.front ∙ so_far.front;
  keys = put.keys;
  changed = put.changed ∙ (λ t. insert (so_far.changed t) at (is t)) ∙ insert_last keys at 0 inside;
}

pub keys_done : (width start at n : ℕ) (keys : List ℕ) (before after : Contents) → at ≡ n → length keys ≡ n → IsKeyChange width start 0 at (λ _. take at keys) before after →
    IsKeyChange width start 0 n (λ _. keys) before after
keys_done width start at n keys before after end long done =
    let there = subst (λ k. IsKeyChange width start 0 k (λ _. take k keys) before after) end done in
    record {
      capacity = there.capacity;
      tag = there.tag;
      front = there.front;
      keys = there.keys;
      changed = there.changed ∙ take_all n keys (omega arith);
    }

-- ---- keys of which a word holds one, in one gap

pub keys_below : (unit : ℕ) (some : 0 < unit) (pairs : List (ℕ × ℕ)) → AllByRecursion (λ key. key < unit) (keys_of (low_pairs unit pairs))
keys_below unit some [] = tt
keys_below unit some (pair ∷ pairs) = (mod_below pair.0 unit some, keys_below unit some pairs)

-- The next key written.
pub key_written : (words front keys : List ℕ) (start place at key : ℕ) → place ≡ start + at → place < length words → at < length keys → key ≡ get_or keys at 0 →
    take (start + at) words ≡ front ++ take at keys
    → take (start + (at + 1)) (set words place key) ≡ front ++ take (at + 1) keys
key_written words front keys start place at key is room inside same so_far =
    let next : start + (at + 1) ≡ place + 1 = omega arith in
    ap (λ n. take n (set words place key)) next
    ∙ take_more_set words place key room
    ∙ ap (λ l. l ++ key ∷ []) (ap (λ n. take n words) is ∙ so_far)
    ∙ append_assoc front (take at keys) (key ∷ [])
    ∙ ap (λ k. front ++ (take at keys ++ k ∷ [])) same
    ∙ ap (λ l. front ++ l) (sym (take_more keys at 0 (omega arith)))

drop_front : (words keys : List ℕ) (start : ℕ) → start ≡ length words → drop start (words ++ keys) ≡ keys
drop_front [] keys zero is = refl
drop_front [] keys (suc start) is = let never : ⊥ = omega arith in absurd never
drop_front (x ∷ words) keys zero is = let never : ⊥ = omega arith in absurd never
drop_front (x ∷ words) keys (suc start) is = drop_front words keys start (omega arith)

module _ (width : ℕ) (is_width : IsWidth width) (one : 8 / width ≡ 1) where
  all_tight : (keys : List ℕ) → AllByRecursion (λ key. key < 256 ^ width) keys → AllByRecursion (HasZeroPadding width) keys
  all_tight [] below = tt
  all_tight (key ∷ keys) below = (fits_word width is_width one key below.0, all_tight keys below.1)

  -- Keys behind all words.
  pub keys_appended : (start n : ℕ) (keys : List ℕ) (before after : Contents) → after.words ≡ before.words ++ keys → start ≡ length before.words
      → after.capacity ≡ before.capacity → after.tag ≡ before.tag → length keys ≡ n → n ≤ 32 → AllByRecursion (λ key. key < 256 ^ width) keys → IsKeyChange width start 0 n (λ _. keys) before after
  keys_appended start n keys before after words is capacity tag many few below =
      let back : drop start after.words ≡ keys = ap (drop start) words ∙ drop_front before.words keys start is in
      let as_many = words_are width is_width one n in
      let sum = ap length words ∙ length-append before.words keys in
      let exact : length after.words ≡ start + words_for width n = omega arith in
      let packed : IsPacked width n (drop start after.words) = subst (IsPacked width n) (sym back) (packed_words width is_width one n keys many (all_tight keys below)) in
      record {
        capacity = capacity;
        tag = tag;
        front = ap (take start) words ∙ take-append-le start before.words keys (omega arith);
        keys = record { few = few; exact = exact; packed = packed };
        changed = keys_are width is_width one n (drop start after.words) packed ∙ ap (take n) back ∙ take_all n keys (omega arith);
      }

  -- All keys written.
  pub keys_written : (start n at : ℕ) (keys : List ℕ) (before gap after : Contents) → gap ≡ record before { words = with_gap start n before.words } → start ≡ length before.words
      → after.capacity ≡ gap.capacity → after.tag ≡ gap.tag → length after.words ≡ length gap.words → at ≡ n → length keys ≡ n → n ≤ 32
      → take (start + at) after.words ≡ take start gap.words ++ take at keys → AllByRecursion (λ key. key < 256 ^ width) keys → IsKeyChange width start 0 n (λ _. keys) before after
  keys_written start n at keys before gap after opened is capacity tag long end many few so_far below =
      let behind : gap.words ≡ before.words ++ replicate n 0 = ap (λ b. b.words) opened ∙ gap_behind before.words start n is in
      let all = ap length behind ∙ gap_length before.words n in
      let front : take start gap.words ≡ before.words = ap (take start) behind ∙ gap_front before.words start n is in
      let words : after.words ≡ before.words ++ keys = sym (take_all (start + at) after.words (omega arith)) ∙ so_far ∙ (λ t. front t ++ take_all at keys (omega arith) t) in
      keys_appended start n keys before after words is (capacity ∙ ap (λ b. b.capacity) opened) (tag ∙ ap (λ b. b.tag) opened) many few below

-- ---- pairs

pub low_values : (unit : ℕ) (pairs : List (ℕ × ℕ)) → values_of pairs ≡ values_of (low_pairs unit pairs)
low_values unit [] = refl
low_values unit (pair ∷ pairs) = ap (λ l. pair.1 ∷ l) (low_values unit pairs)

pub both_of : (pairs : List (ℕ × ℕ)) → pairs_of (keys_of pairs) (values_of pairs) ≡ pairs
both_of [] = refl
both_of (pair ∷ pairs) = ap (λ l. pair ∷ l) (both_of pairs)

pub keys_alone : (unit : ℕ) (pairs : List (ℕ × ℕ)) → AllByRecursion (λ pair. pair.1 ≡ 0) pairs → pairs_of (keys_of (low_pairs unit pairs)) [] ≡ low_pairs unit pairs
keys_alone unit [] none = refl
keys_alone unit (pair ∷ pairs) none = λ t. (pair.0 % unit, sym none.0 t) ∷ keys_alone unit pairs none.1 t

-- A leaf's block, with values before the keys.
pub put_with_values : (words width : ℕ) (pairs : List (ℕ × ℕ)) (mid after : Contents) → words ≡ 1 → mid.tag ≡ width → mid.words ≡ values_of pairs
    → IsKeyChange width (length pairs) 0 (length pairs) (λ _. keys_of (low_pairs (256 ^ width) pairs)) mid after
    → (after.tag ≡ width) × AreKeysFrom width (length pairs) (words * length pairs) after × ((leaf_list words (length pairs) after).pairs ≡ low_pairs (256 ^ width) pairs)
put_with_values words width pairs mid after one tagged written put =
    let n = length pairs in
    let once : words * n ≡ n = ap (λ w. w * n) one ∙ omega arith in
    let long = length-values pairs in
    let front : take n after.words ≡ values_of pairs = put.front ∙ ap (take n) written ∙ take_all n (values_of pairs) (omega arith) in (
      put.tag ∙ tagged,
      subst (λ k. AreKeysFrom width n k after) (sym once) put.keys,
      (λ t. pairs_of (keys_from ((put.tag ∙ tagged) t) n (once t) after) (take (once t) after.words))
          ∙ (λ t. pairs_of (put.changed t) ((front ∙ low_values (256 ^ width) pairs) t))
          ∙ both_of (low_pairs (256 ^ width) pairs),
    )

-- And without.
pub put_keys_alone : (words width : ℕ) (pairs : List (ℕ × ℕ)) (before after : Contents) → words ≡ 0 → before.tag ≡ width → AllByRecursion (λ pair. pair.1 ≡ 0) pairs
    → IsKeyChange width 0 0 (length pairs) (λ _. keys_of (low_pairs (256 ^ width) pairs)) before after
    → (after.tag ≡ width) × AreKeysFrom width (length pairs) (words * length pairs) after × ((leaf_list words (length pairs) after).pairs ≡ low_pairs (256 ^ width) pairs)
put_keys_alone words width pairs before after none tagged zeros put =
    let n = length pairs in
    let never_more : words * n ≡ 0 = ap (λ w. w * n) none ∙ omega arith in (
      put.tag ∙ tagged,
      subst (λ k. AreKeysFrom width n k after) (sym never_more) put.keys,
      (λ t. pairs_of (keys_from ((put.tag ∙ tagged) t) n (never_more t) after) (take (never_more t) after.words))
          ∙ ap (λ keys. pairs_of keys []) put.changed
          ∙ keys_alone (256 ^ width) pairs zeros,
    )

-- ---- values and keys in a block at once, where a word has one key

low_same : (unit : ℕ) (pairs : List (ℕ × ℕ)) → AllByRecursion (λ key. key < unit) (keys_of pairs) → low_pairs unit pairs ≡ pairs
low_same unit [] below = refl
low_same unit (pair ∷ pairs) below = let same = mod-eq_of_lt below.0 in λ t. (same t, pair.1) ∷ low_same unit pairs below.1 t

module _ (words width : ℕ) (pairs : List (ℕ × ℕ)) (block : Contents) (wide : 4 < width) (most : width ≤ 8) (tagged : block.tag ≡ width) (few : length pairs ≤ 32)
    (below : AllByRecursion (λ key. key < 256 ^ width) (keys_of pairs)) where
  same_keys : keys_of (low_pairs (256 ^ width) pairs) ≡ keys_of pairs
  same_keys = ap keys_of (low_same (256 ^ width) pairs below)

  keys_behind : (front : List ℕ) → block.words ≡ front ++ keys_of pairs
      → IsKeyChange width (length front) 0 (length pairs) (λ _. keys_of (low_pairs (256 ^ width) pairs)) (record block { words = front }) block
  keys_behind front is =
      let one : 8 / width ≡ 1 = div-eq_of_lt-le width (omega arith) (omega arith) in
      keys_appended width (record { some = omega arith; most = most }) one (length front) (length pairs) (keys_of (low_pairs (256 ^ width) pairs)) (record block { words = front }) block
      (is ∙ ap (λ l. front ++ l) (sym same_keys)) refl refl refl (length-keys_low (256 ^ width) pairs) few (subst (AllByRecursion (λ key. key < 256 ^ width)) (sym same_keys) below)

  pub made_with_values : words ≡ 1 → block.words ≡ values_of pairs ++ keys_of pairs
      → (block.tag ≡ width) × AreKeysFrom width (length pairs) (words * length pairs) block × ((leaf_list words (length pairs) block).pairs ≡ low_pairs (256 ^ width) pairs)
  made_with_values one is =
      let mid : Contents = record block { words = values_of pairs } in
      put_with_values words width pairs mid block one tagged refl
      (subst (λ n. IsKeyChange width n 0 (length pairs) (λ _. keys_of (low_pairs (256 ^ width) pairs)) mid block) (length-values pairs) (keys_behind (values_of pairs) is))

  pub made_alone : words ≡ 0 → AllByRecursion (λ pair. pair.1 ≡ 0) pairs → block.words ≡ keys_of pairs
      → (block.tag ≡ width) × AreKeysFrom width (length pairs) (words * length pairs) block × ((leaf_list words (length pairs) block).pairs ≡ low_pairs (256 ^ width) pairs)
  made_alone none zeros is = put_keys_alone words width pairs (record block { words = [] }) block none tagged zeros (keys_behind [] is)
