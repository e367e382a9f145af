-- What a pair more or less in its block makes of a bitmap leaf.
use Rattle.std.proofs.Common.{◌≡◌, ◌≢◌, ℕ, zero, suc, ◌+◌, ◌-◌, ◌*◌, ◌/◌, ◌%◌, ◌^◌, ◌<◌, ◌≤◌, false, cond, List, [], ◌∷◌, length, take, drop, get_or, set, slice_get, Some, bit_and}
use Rattle.std.proofs.Common.{bit_or, refl, ap, sym, ◌∙◌, arith, get_or-take}
use Rattle.std.specs.List.{insert, remove}
use Rattle.std.proofs.lemmas.List.{drop-set-lt, length-set, length-take-le, length-drop}
use Rattle.std.proofs.Math.Seq.{take-set-lt}
use Rattle.std.proofs.lemmas.Option.{slice_get_within, slice_get-get_or}
use Rattle.judy_block.specs.Contents.{Contents}
use Rattle.judy_bits.specs.ByteSets as set
use Rattle.judy_bits.specs.BitWords.{members_of}
use Rattle.judy_bits.proofs.SetLemmas.{with_other, without_at, length-with_byte}
use Rattle.judy_bits.proofs.MemberLemmas.{members_of-add, members_of-take, members_of-IsByteSet, members_of-new, length-members_of-le}
use Rattle.judy_leaf.specs.KeyLists.{KeyList, keys_of, pairs_of, low_pairs, with_pair, IsKeyList}
use Rattle.judy_leaf.specs.BitLeaves.{bit_keys, bit_list, IsBitParts}
use Rattle.judy_leaf.specs.BitChanges.{IsBitChange, IsBitEdit}
use Rattle.judy_leaf.proofs.ValueSteps.{length-insert, length-remove}
use Rattle.judy_leaf.proofs.LeafLists.{keys_of-pairs_of, rank_within}
use Rattle.judy_leaf.specs.PairChanges.{HasRoom}
use Rattle.judy_leaf.proofs.LowPairs.{length-low, low_at, with_next}
use Rattle.judy_leaf.proofs.BitLists.{bit_keys_are, bit_length}
use Rattle.judy_leaf.proofs.PairLists.{pairs-insert, pairs-insert_none, pairs-remove, pairs-remove_none}

-- Without a word of its own each key has none.
pub no_word : {words read : ℕ} → read ≡ words → words ≤ 1 → read ≢ 1 → words ≡ 0
no_word is most apart = omega arith

-- ---- the bits

module _ (words : List ℕ) (byte : ℕ) (long : 4 ≤ length words) (small : byte < 256) where
  four : length (take 4 words) ≡ 4
  four = length-take-le 4 words long

  pub bit_on : members_of (take 4 (set words (byte / 64) (bit_or (get_or words (byte / 64) 0) (1 * 2 ^ (byte % 64) % 2 ^ 64)))) ≡ set.with_byte (members_of (take 4 words)) byte
  bit_on =
      ap members_of (take-set-lt 4 words (byte / 64) (bit_or (get_or words (byte / 64) 0) (1 * 2 ^ (byte % 64) % 2 ^ 64)) (omega arith))
      ∙ ap (λ word. members_of (set (take 4 words) (byte / 64) (bit_or word (1 * 2 ^ (byte % 64) % 2 ^ 64)))) (sym (get_or-take 4 words (byte / 64) 0 (omega arith)))
      ∙ members_of-add (take 4 words) byte small four

  pub bit_off : members_of (take 4 (set words (byte / 64) (bit_and (get_or words (byte / 64) 0) (2 ^ 64 - 1 - 1 * 2 ^ (byte % 64) % 2 ^ 64)))) ≡ set.without_byte (members_of (take 4 words)) byte
  bit_off =
      ap members_of (take-set-lt 4 words (byte / 64) (bit_and (get_or words (byte / 64) 0) (2 ^ 64 - 1 - 1 * 2 ^ (byte % 64) % 2 ^ 64)) (omega arith))
      ∙ ap (λ word. members_of (set (take 4 words) (byte / 64) (bit_and word (2 ^ 64 - 1 - 1 * 2 ^ (byte % 64) % 2 ^ 64)))) (sym (get_or-take 4 words (byte / 64) 0 (omega arith)))
      ∙ members_of-take (take 4 words) byte small four

  -- There is room for a byte that is none of the keys.
  pub bit_room : set.has (members_of (take 4 words)) byte ≡ false → length (members_of (take 4 words)) + 1 ≤ 256
  bit_room absent =
      let more : length (set.with_byte (members_of (take 4 words)) byte) ≡ length (members_of (take 4 words)) + 1 =
      length-with_byte (members_of (take 4 words)) byte (members_of-IsByteSet (take 4 words)).ascending ∙
      ap (λ b. cond b (length (members_of (take 4 words))) (length (members_of (take 4 words)) + 1)) absent in
      let most = length-members_of-le (set (take 4 words) (byte / 64) (bit_or (get_or (take 4 words) (byte / 64) 0) (1 * 2 ^ (byte % 64) % 2 ^ 64))) in
      let same = ap length (members_of-add (take 4 words) byte small four) in
      omega arith

-- ---- the words behind them

five : (at : ℕ) → 4 + at ≡ suc (suc (suc (suc at)))
five at = omega arith

module _ (X : Type 0) where
  take-insert_four : (words : List X) (at : ℕ) (value : X) → 4 + at ≤ length words → take 4 (insert words (4 + at) value) ≡ take 4 words
  take-insert_four (a ∷ b ∷ c ∷ d ∷ words) at value inside = ap (λ n. take 4 (insert (a ∷ b ∷ c ∷ d ∷ words) n value)) (five at)
  take-insert_four [] at value inside = let never : ⊥ = omega arith in absurd never
  take-insert_four (a ∷ []) at value inside = let never : ⊥ = omega arith in absurd never
  take-insert_four (a ∷ b ∷ []) at value inside = let never : ⊥ = omega arith in absurd never
  take-insert_four (a ∷ b ∷ c ∷ []) at value inside = let never : ⊥ = omega arith in absurd never

  drop-insert_four : (words : List X) (at : ℕ) (value : X) → 4 + at ≤ length words → drop 4 (insert words (4 + at) value) ≡ insert (drop 4 words) at value
  drop-insert_four (a ∷ b ∷ c ∷ d ∷ words) at value inside = ap (λ n. drop 4 (insert (a ∷ b ∷ c ∷ d ∷ words) n value)) (five at)
  drop-insert_four [] at value inside = let never : ⊥ = omega arith in absurd never
  drop-insert_four (a ∷ []) at value inside = let never : ⊥ = omega arith in absurd never
  drop-insert_four (a ∷ b ∷ []) at value inside = let never : ⊥ = omega arith in absurd never
  drop-insert_four (a ∷ b ∷ c ∷ []) at value inside = let never : ⊥ = omega arith in absurd never

  take-remove_four : (words : List X) (at : ℕ) → 4 + at < length words → take 4 (remove words (4 + at)) ≡ take 4 words
  take-remove_four (a ∷ b ∷ c ∷ d ∷ words) at inside = ap (λ n. take 4 (remove (a ∷ b ∷ c ∷ d ∷ words) n)) (five at)
  take-remove_four [] at inside = let never : ⊥ = omega arith in absurd never
  take-remove_four (a ∷ []) at inside = let never : ⊥ = omega arith in absurd never
  take-remove_four (a ∷ b ∷ []) at inside = let never : ⊥ = omega arith in absurd never
  take-remove_four (a ∷ b ∷ c ∷ []) at inside = let never : ⊥ = omega arith in absurd never

  drop-remove_four : (words : List X) (at : ℕ) → 4 + at < length words → drop 4 (remove words (4 + at)) ≡ remove (drop 4 words) at
  drop-remove_four (a ∷ b ∷ c ∷ d ∷ words) at inside = ap (λ n. drop 4 (remove (a ∷ b ∷ c ∷ d ∷ words) n)) (five at)
  drop-remove_four [] at inside = let never : ⊥ = omega arith in absurd never
  drop-remove_four (a ∷ []) at inside = let never : ⊥ = omega arith in absurd never
  drop-remove_four (a ∷ b ∷ []) at inside = let never : ⊥ = omega arith in absurd never
  drop-remove_four (a ∷ b ∷ c ∷ []) at inside = let never : ⊥ = omega arith in absurd never

-- The value words of a bitmap leaf are all the words behind the bits.
pub all_values : (words : ℕ) (block : Contents) → IsBitParts words block → take (words * length (bit_keys block)) (drop 4 block.words) ≡ drop 4 block.words
all_values words block is =
    let full = is.full in
    let long : length (drop 4 block.words) ≡ words * length (bit_keys block) = length-drop 4 block.words ∙ omega arith in
    take_whole (words * length (bit_keys block)) (drop 4 block.words) long
  where
    take_whole : (n : ℕ) (xs : List ℕ) → length xs ≡ n → take n xs ≡ xs
    take_whole zero [] same = refl
    take_whole (suc n) [] same = refl
    take_whole zero (x ∷ xs) same = let never : ⊥ = omega arith in absurd never
    take_whole (suc n) (x ∷ xs) same = ap (λ rest. x ∷ rest) (take_whole n xs (omega arith))

-- ---- a change of the bits

-- A word among the first four is written, and the bits become what they are to be.
pub bits_changed : (change : List ℕ → List ℕ) (block : Contents) (at word : ℕ) → at < 4 → members_of (take 4 (set block.words at word)) ≡ change (bit_keys block) →
    IsBitChange change block (record block { words = set block.words at word })
bits_changed change block at word inside is = record {
  capacity = refl;
  tag = refl;
  long = length-set block.words at word;
  values = drop-set-lt 4 block.words at word inside;
  changed = is;
}

-- ---- a pair more

-- A word more for each key with a value.
one_more : (words n : ℕ) → words ≤ 1 → words * (n + 1) ≡ words * n + words
one_more zero n one = omega arith
one_more (suc zero) n one = omega arith
one_more (suc (suc k)) n one = let never : ⊥ = omega arith in absurd never

module _ (words at key value : ℕ) (before bits after : Contents) (is : IsBitParts words before) (small : key < 256) (absent : set.has (bit_keys before) key ≡ false)
    (place : at ≡ set.rank (bit_keys before) key)
    (changed : IsBitChange (λ keys. set.with_byte keys key) before bits) (tag : after.tag ≡ bits.tag + 1) (capacity : after.capacity ≡ bits.capacity) (front : take 4 after.words ≡ take 4 bits.words)
    (long : length after.words ≡ length bits.words + words) (rest : pairs_of (insert (bit_keys before) at key) (drop 4 after.words) ≡
    insert (pairs_of (bit_keys before) (drop 4 bits.words)) at (key, value)) where
  keys_put : bit_keys after ≡ insert (bit_keys before) at key
  keys_put =
      ap members_of front ∙ changed.changed ∙ with_other (bit_keys before) key (members_of-IsByteSet (take 4 before.words)).ascending absent ∙ ap (λ n. insert (bit_keys before) n key) (sym place)

  one_key_more : length (bit_keys after) ≡ length (bit_keys before) + 1
  one_key_more =
      let within = rank_within (bit_keys before) key in
      ap length keys_put ∙ length-insert (bit_keys before) at key (omega arith) ∙ omega arith

  parts_put : IsBitParts words after
  parts_put =
      let full = is.full in
      let more = one_key_more in
      let same = changed.long in
      let tagged = changed.tag in
      let count = is.count in
      let room = bit_room before.words key (omega arith) small absent in
      let some = is.some in
      let most = is.most in
      record {
        one = is.one;
        some = omega arith;
        most = omega arith;
        count = omega arith;
        full = (let e : length after.words ≡ 4 + (words * length (bit_keys before) + words) = omega arith in e) ∙
            ap (λ n. 4 + n) (sym (one_more words (length (bit_keys before)) is.one) ∙ ap (λ n. words * n) (sym more));
      }

  pub bit_put : IsBitEdit words (with_pair key value) before after
  bit_put =
      let ks = bit_keys before in
      let tagged = changed.tag in
      let count = is.count in
      let room = bit_room before.words key (let full = is.full in omega arith) small absent in
      record {
        capacity = capacity ∙ changed.capacity;
        parts = parts_put;
        list = λ t. record {
          width = (let e : after.tag / 65536 ≡ before.tag / 65536 = omega arith in e) t;
          pairs = (ap (pairs_of (bit_keys after)) (all_values words after parts_put)
              ∙ ap (λ keys. pairs_of keys (drop 4 after.words)) keys_put
              ∙ rest
              ∙ ap (λ values. insert (pairs_of ks values) at (key, value)) (changed.values ∙ sym (all_values words before is))
              ∙ ap (λ n. insert (bit_list words before).pairs n (key, value)) (place ∙ ap (λ keys. set.rank keys key) (sym (keys_of-pairs_of ks (take (words * length ks) (drop 4 before.words)))))) t;
        };
      }

-- There are no value words where keys have none.
no_words : (words : ℕ) (block : Contents) → IsBitParts words block → words ≡ 0 → drop 4 block.words ≡ []
no_words words block is none =
    sym (all_values words block is) ∙ ap (λ n. take n (drop 4 block.words)) (ap (λ w. w * length (bit_keys block)) none ∙ (let e : 0 * length (bit_keys block) ≡ 0 = omega arith in e))

-- As many as keys, where they have one each.
pub as_many : (words : ℕ) (block : Contents) → IsBitParts words block → words ≡ 1 → length (drop 4 block.words) ≡ length (bit_keys block)
as_many words block is one =
    let full = is.full in
    let many : words * length (bit_keys block) ≡ length (bit_keys block) = ap (λ w. w * length (bit_keys block)) one ∙ omega arith in
    length-drop 4 block.words ∙ omega arith

module _ (words at key value tag : ℕ) (before bits after : Contents) (is : IsBitParts words before) (small : key < 256) (absent : set.has (bit_keys before) key ≡ false)
    (place : at ≡ set.rank (bit_keys before) key)
    (changed : IsBitChange (λ keys. set.with_byte keys key) before bits) (tagged : tag ≡ bits.tag + 1) where
  here : at ≤ length (bit_keys before)
  here = let within = rank_within (bit_keys before) key in omega arith

  pub value_place : words ≡ 1 → (at ≤ 256) × (4 + at ≤ length bits.words)
  value_place one =
      let all = as_many words before is one in
      let full = is.full in
      let long = changed.long in
      let most = length-members_of-le (take 4 before.words) in
      let inside = here in
      let many : words * length (bit_keys before) ≡ length (bit_keys before) = ap (λ w. w * length (bit_keys before)) one ∙ omega arith in
      (omega arith, omega arith)

  pub put_with_value : words ≡ 1 → after ≡ record bits { tag = tag; words = insert bits.words (4 + at) value } → IsBitEdit words (with_pair key value) before after
  put_with_value one is_after =
      let place_in = (value_place one).1 in
      bit_put words at key value before bits after is small absent place changed (ap (λ b. b.tag) is_after ∙ tagged) (ap (λ b. b.capacity) is_after)
      (ap (λ b. take 4 b.words) is_after ∙ take-insert_four ℕ bits.words at value place_in)
      (ap (λ b. length b.words) is_after ∙ length-insert bits.words (4 + at) value place_in ∙ (let e : suc (length bits.words) ≡ length bits.words + words = omega arith in e))
      (ap (λ b. pairs_of (insert (bit_keys before) at key) (drop 4 b.words)) is_after
      ∙ ap (pairs_of (insert (bit_keys before) at key)) (drop-insert_four ℕ bits.words at value place_in)
      ∙ pairs-insert (bit_keys before) (drop 4 bits.words) at key value (ap length changed.values ∙ as_many words before is one) here)

  pub put_without : words ≡ 0 → value ≡ 0 → after ≡ record bits { tag = tag } → IsBitEdit words (with_pair key value) before after
  put_without none zeros is_after =
      let empty : drop 4 bits.words ≡ [] = changed.values ∙ no_words words before is none in
      bit_put words at key value before bits after is small absent place changed (ap (λ b. b.tag) is_after ∙ tagged) (ap (λ b. b.capacity) is_after) (ap (λ b. take 4 b.words) is_after)
      (ap (λ b. length b.words) is_after ∙ (let e : length bits.words ≡ length bits.words + words = omega arith in e))
      (ap (λ b. pairs_of (insert (bit_keys before) at key) (drop 4 b.words)) is_after
      ∙ ap (pairs_of (insert (bit_keys before) at key)) empty ∙ pairs-insert_none (bit_keys before) at key here
      ∙ (λ t. insert (pairs_of (bit_keys before) (sym empty t)) at (key, sym zeros t)))

-- ---- a pair less

module _ (words at key : ℕ) (before bits after : Contents) (is : IsBitParts words before) (there : slice_get (bit_keys before) at ≡ Some key)
    (changed : IsBitChange (λ keys. set.without_byte keys key) before bits) (tag : after.tag ≡ bits.tag - 1) (capacity : after.capacity ≡ bits.capacity)
    (front : take 4 after.words ≡ take 4 bits.words)
    (long : length after.words + words ≡ length bits.words) (rest : pairs_of (remove (bit_keys before) at) (drop 4 after.words) ≡ remove (pairs_of (bit_keys before) (drop 4 bits.words)) at) where
  keys_taken : bit_keys after ≡ remove (bit_keys before) at
  keys_taken = ap members_of front ∙ changed.changed ∙ without_at (bit_keys before) at key (members_of-IsByteSet (take 4 before.words)).ascending there

  one_key_less : length (bit_keys after) + 1 ≡ length (bit_keys before)
  one_key_less =
      let fewer = length-remove (bit_keys before) at (slice_get_within (bit_keys before) at key there) in
      let same = ap length keys_taken in
      omega arith

  parts_taken : IsBitParts words after
  parts_taken =
      let full = is.full in
      let less = one_key_less in
      let same = changed.long in
      let tagged = changed.tag in
      let count = is.count in
      let some = is.some in
      let most = is.most in
      let each : words * length (bit_keys before) ≡ words * length (bit_keys after) + words = ap (λ n. words * n) (sym less) ∙ one_more words (length (bit_keys after)) is.one in
      record { one = is.one; some = omega arith; most = omega arith; count = omega arith; full = omega arith }

  pub bit_taken : IsBitEdit words (λ pairs. remove pairs at) before after
  bit_taken =
      let ks = bit_keys before in
      let tagged = changed.tag in
      let count = is.count in
      let less = one_key_less in
      record {
        capacity = capacity ∙ changed.capacity;
        parts = parts_taken;
        list = λ t. record {
          width = (let e : after.tag / 65536 ≡ before.tag / 65536 = omega arith in e) t;
          pairs = (ap (pairs_of (bit_keys after)) (all_values words after parts_taken)
              ∙ ap (λ keys. pairs_of keys (drop 4 after.words)) keys_taken
              ∙ rest
              ∙ ap (λ values. remove (pairs_of ks values) at) (changed.values ∙ sym (all_values words before is))) t;
        };
      }

module _ (words at key tag : ℕ) (before bits after : Contents) (is : IsBitParts words before) (there : slice_get (bit_keys before) at ≡ Some key)
    (changed : IsBitChange (λ keys. set.without_byte keys key) before bits) (tagged : tag ≡ bits.tag - 1) where
  inside : at < length (bit_keys before)
  inside = slice_get_within (bit_keys before) at key there

  pub value_there : words ≡ 1 → 4 + at < length bits.words
  value_there one =
      let all = as_many words before is one in
      let full = is.full in
      let long = changed.long in
      let within = inside in
      let many : words * length (bit_keys before) ≡ length (bit_keys before) = ap (λ w. w * length (bit_keys before)) one ∙ omega arith in
      omega arith

  pub take_with_value : words ≡ 1 → after ≡ record bits { tag = tag; words = remove bits.words (4 + at) } → IsBitEdit words (λ pairs. remove pairs at) before after
  take_with_value one is_after =
      let place_in = value_there one in
      bit_taken words at key before bits after is there changed (ap (λ b. b.tag) is_after ∙ tagged) (ap (λ b. b.capacity) is_after)
      (ap (λ b. take 4 b.words) is_after ∙ take-remove_four ℕ bits.words at place_in)
      (let less = length-remove bits.words (4 + at) place_in in let same = ap (λ b. length b.words) is_after in omega arith)
      (ap (λ b. pairs_of (remove (bit_keys before) at) (drop 4 b.words)) is_after
      ∙ ap (pairs_of (remove (bit_keys before) at)) (drop-remove_four ℕ bits.words at place_in)
      ∙ pairs-remove (bit_keys before) (drop 4 bits.words) at (ap length changed.values ∙ as_many words before is one) inside)

  pub take_without : words ≡ 0 → after ≡ record bits { tag = tag } → IsBitEdit words (λ pairs. remove pairs at) before after
  take_without none is_after =
      let empty : drop 4 bits.words ≡ [] = changed.values ∙ no_words words before is none in
      bit_taken words at key before bits after is there changed (ap (λ b. b.tag) is_after ∙ tagged) (ap (λ b. b.capacity) is_after) (ap (λ b. take 4 b.words) is_after)
      (let same = ap (λ b. length b.words) is_after in omega arith)
      (ap (λ b. pairs_of (remove (bit_keys before) at) (drop 4 b.words)) is_after
      ∙ ap (pairs_of (remove (bit_keys before) at)) empty ∙ pairs-remove_none (bit_keys before) at inside
      ∙ ap (λ values. remove (pairs_of (bit_keys before) values) at) (sym empty))

-- ---- a bitmap leaf that changes

module _ (words : ℕ) (block : Contents) (is : IsBitParts words block) (list : KeyList) (seen : bit_list words block ≡ list) where
  -- What an absent byte takes with its value is one of at most 256.
  pub bit_fits : (n key : ℕ) → n ≡ block.tag % 65536 → key < 256 → set.has (keys_of list.pairs) key ≡ false → n + 1 ≤ 256
  bit_fits n key counted small absent =
      let full = is.full in
      let room = bit_room block.words key (omega arith) small (ap (λ keys. set.has keys key) (bit_keys_are words block is list seen) ∙ absent) in
      let count = is.count in
      omega arith

  pub bit_needed : (n w : ℕ) → n ≡ block.tag % 65536 → w ≡ words → length block.words + words ≡ 4 + w * (n + 1)
  bit_needed n w counted is_words =
      let full = is.full in
      let many : n ≡ length (bit_keys block) = counted ∙ is.count in
      let each : w * (n + 1) ≡ words * length (bit_keys block) + words = (λ t. is_words t * (many t + 1)) ∙ one_more words (length (bit_keys block)) is.one in
      omega arith

  pub room_keys : (needed : ℕ) (room : Contents) → HasRoom needed block room → bit_keys room ≡ keys_of list.pairs
  room_keys needed room has = ap (λ ws. members_of (take 4 ws)) has.words ∙ bit_keys_are words block is list seen

  -- The byte at a place.
  pub byte_at : (at byte : ℕ) → at < length list.pairs → byte ≡ get_or (keys_of list.pairs) at 0 → slice_get (bit_keys block) at ≡ Some byte
  byte_at at byte inside is_byte =
      let long = bit_length words block is list seen in
      slice_get-get_or (bit_keys block) at 0 (omega arith) ∙ ap (λ keys. Some (get_or keys at 0)) (bit_keys_are words block is list seen) ∙ ap Some (sym is_byte)

-- ---- a bitmap leaf of pairs

-- Four words of 0 have no keys.
pub no_bits : (words width : ℕ) (block : Contents) → words ≤ 1 → 1 ≤ width → width ≤ 8 → block.words ≡ 0 ∷ 0 ∷ 0 ∷ 0 ∷ [] → block.tag ≡ 65536 * width → IsBitParts words block × (bit_keys block ≡ [])
no_bits words width block one some most zeros tagged =
    let empty : bit_keys block ≡ [] = ap (λ ws. members_of (take 4 ws)) zeros ∙ members_of-new in (
      record {
        one = one;
        some = omega arith;
        most = omega arith;
        count = (let e : block.tag % 65536 ≡ 0 = omega arith in e) ∙ ap length (sym empty);
        full = ap length zeros ∙ (let e : 4 ≡ 4 + words * 0 = omega arith in e) ∙ ap (λ ks. 4 + words * length ks) (sym empty);
      },
      empty,
    )
