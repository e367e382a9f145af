-- The pairs of a bitmap leaf written into its block one part after the other: the bits, then the values.
use Rattle.std.proofs.Common.{◌≡◌, ℕ, ◌+◌, ◌*◌, ◌/◌, ◌%◌, ◌<◌, ◌≤◌, List, [], ◌++◌, length, take, drop, get_or, ap, sym, ◌∙◌, arith, length-append}
use Rattle.std.specs.List.{AllByRecursion, insert}
use Rattle.std.specs.List.Sorted.{IsStrictlySortedBy}
use Rattle.std.proofs.lemmas.List.{take_all, drop_all, take-append-le, drop-append-le}
use Rattle.judy_block.specs.Contents.{Contents}
use Rattle.judy_model.specs.Keys.{word_order}
use Rattle.judy_bits.specs.ByteSets as set
use Rattle.judy_bits.specs.BitWords.{members_of}
use Rattle.judy_bits.proofs.SetLemmas.{with_other}
use Rattle.judy_bits.proofs.MemberLemmas.{members_of-IsByteSet}
use Rattle.judy_leaf.specs.KeyLists.{keys_of, values_of, pairs_of, low_pairs, IsKeyList}
use Rattle.judy_leaf.specs.BitLeaves.{bit_keys, bit_list, IsBitParts}
use Rattle.judy_leaf.specs.BitChanges.{IsBitChange}
use Rattle.judy_leaf.proofs.Filled.{insert_last}
use Rattle.judy_leaf.proofs.LowPairs.{keys-take, key-get, first_rank, first_absent, few_below}
use Rattle.judy_leaf.proofs.LeafLists.{length-keys_of}
use Rattle.judy_leaf.proofs.Appended.{length-values, length-keys_low, key_low, low_values, both_of, keys_alone}

-- The next of ascending keys as a byte more.
byte_next : (pairs : List (ℕ × ℕ)) (at : ℕ) (before : List ℕ) (byte : ℕ) → IsStrictlySortedBy word_order (keys_of pairs) → at < length pairs →
    IsStrictlySortedBy word_order before → before ≡ take at (keys_of pairs)
    → byte ≡ get_or (keys_of pairs) at 0 → set.with_byte before byte ≡ take (at + 1) (keys_of pairs)
byte_next pairs at before byte ascending inside sorted is is_byte =
    let first : before ≡ keys_of (take at pairs) = is ∙ sym (keys-take pairs at) in
    let key : byte ≡ (get_or pairs at (0, 0)).0 = is_byte ∙ sym (key-get pairs at (0, 0)) in
    let absent = (λ t. set.has (first t) (key t)) ∙ first_absent pairs at ascending inside in
    let rank = (λ t. set.rank (first t) (key t)) ∙ first_rank pairs at ascending inside in
    let long = length-keys_of pairs in
    with_other before byte sorted absent ∙ (λ t. insert (is t) (rank t) (is_byte t)) ∙ insert_last (keys_of pairs) at 0 (omega arith)

pub bit_next : (pairs : List (ℕ × ℕ)) (at byte : ℕ) (first before after : Contents) → IsKeyList (record { width = 1; pairs = low_pairs 256 pairs }) → at < length pairs →
    byte ≡ (get_or pairs at (0, 0)).0 % 256
    → IsBitChange (λ _. take at (keys_of (low_pairs 256 pairs))) first before → IsBitChange (λ keys. set.with_byte keys byte) before after →
    IsBitChange (λ _. take (at + 1) (keys_of (low_pairs 256 pairs))) first after
bit_next pairs at byte first before after list inside is so_far put =
    let long = length-keys_low 256 pairs in
    let all = length-keys_of (low_pairs 256 pairs) in
    record {
      capacity = put.capacity ∙ so_far.capacity;
      tag = put.tag ∙ so_far.tag;
      long = put.long ∙ so_far.long;
      values = put.values ∙ so_far.values;
      changed = put.changed
          ∙ byte_next (low_pairs 256 pairs) at (bit_keys before) byte list.ascending (omega arith) (members_of-IsByteSet (take 4 before.words)).ascending so_far.changed
          (is ∙ key_low 256 pairs at inside);
    }

pub bits_done : (pairs : List (ℕ × ℕ)) (at : ℕ) (before after : Contents) → length pairs ≤ at → IsBitChange (λ _. take at (keys_of (low_pairs 256 pairs))) before after →
    IsBitChange (λ _. keys_of (low_pairs 256 pairs)) before after
bits_done pairs at before after end done =
    let long = length-keys_low 256 pairs in
    record {
      capacity = done.capacity;
      tag = done.tag;
      long = done.long;
      values = done.values;
      changed = done.changed ∙ take_all at (keys_of (low_pairs 256 pairs)) (omega arith);
    }

-- At most 256 pairs differ in their lowest byte.
pub few_bytes : (pairs : List (ℕ × ℕ)) → IsKeyList (record { width = 1; pairs = low_pairs 256 pairs }) → length pairs ≤ 256
few_bytes pairs list = let long = length-keys_low 256 pairs in let few = few_below 256 (keys_of (low_pairs 256 pairs)) list.ascending list.below in omega arith

pub bits_front : (words : ℕ) (pairs : List (ℕ × ℕ)) (before bits after : Contents) → IsBitParts words before → bit_keys before ≡ [] →
    IsBitChange (λ _. keys_of (low_pairs 256 pairs)) before bits → after.words ≡ bits.words → length after.words ≤ 4
bits_front words pairs before bits after is empty changed same =
    let full = is.full in
    let none = ap length empty in
    let each : words * length (bit_keys before) ≡ 0 = ap (λ n. words * n) none ∙ omega arith in
    let long = changed.long in
    let words_are = ap length same in
    omega arith

module _ (words : ℕ) (pairs : List (ℕ × ℕ)) (before bits after : Contents) (is : IsBitParts words before) (empty : bit_keys before ≡ []) (few : length pairs ≤ 256)
    (changed : IsBitChange (λ _. keys_of (low_pairs 256 pairs)) before bits) (tagged : after.tag ≡ bits.tag + length pairs) where
  no_words : length bits.words ≡ 4
  no_words = let full = is.full in let none = ap length empty in let each : words * length (bit_keys before) ≡ 0 = ap (λ n. words * n) none ∙ omega arith in let long = changed.long in omega arith

  put : take 4 after.words ≡ take 4 bits.words → length after.words ≡ 4 + words * length pairs
      → pairs_of (keys_of (low_pairs 256 pairs)) (take (words * length pairs) (drop 4 after.words)) ≡ low_pairs 256 pairs
      → IsBitParts words after × (bit_list words after ≡ record (bit_list words before) { pairs = low_pairs 256 pairs })
  put front long rest =
      let keys : bit_keys after ≡ keys_of (low_pairs 256 pairs) = ap members_of front ∙ changed.changed in
      let count : length (bit_keys after) ≡ length pairs = ap length keys ∙ length-keys_low 256 pairs in
      let none = ap length empty in
      let held = is.count in
      let some = is.some in
      let most = is.most in
      let same = changed.tag in (
        record {
          one = is.one;
          some = omega arith;
          most = omega arith;
          count = omega arith;
          full = long ∙ ap (λ n. 4 + words * n) (sym count);
        },
        (λ t. record {
          width = (let e : after.tag / 65536 ≡ before.tag / 65536 = omega arith in e) t;
          pairs = ((λ u. pairs_of (keys u) (take (words * count u) (drop 4 after.words))) ∙ rest) t;
        }),
      )

  pub bits_and_values : words ≡ 1 → after.words ≡ bits.words ++ values_of pairs → IsBitParts words after × (bit_list words after ≡ record (bit_list words before) { pairs = low_pairs 256 pairs })
  bits_and_values one written =
      let four = no_words in
      let long = length-values pairs in
      let once : words * length pairs ≡ length pairs = ap (λ w. w * length pairs) one ∙ omega arith in
      let behind : drop 4 after.words ≡ values_of pairs =
      ap (drop 4) written ∙ drop-append-le 4 bits.words (values_of pairs) (omega arith) ∙ ap (λ l. l ++ values_of pairs) (drop_all 4 bits.words (omega arith)) in
      put (ap (take 4) written ∙ take-append-le 4 bits.words (values_of pairs) (omega arith))
      (ap length written ∙ length-append bits.words (values_of pairs) ∙ omega arith)
      ((λ t. pairs_of (keys_of (low_pairs 256 pairs)) (take (once t) (behind t)))
      ∙ ap (pairs_of (keys_of (low_pairs 256 pairs))) (take_all (length pairs) (values_of pairs) (omega arith) ∙ low_values 256 pairs)
      ∙ both_of (low_pairs 256 pairs))

  pub bits_alone : words ≡ 0 → AllByRecursion (λ pair. pair.1 ≡ 0) pairs → after.words ≡ bits.words →
      IsBitParts words after × (bit_list words after ≡ record (bit_list words before) { pairs = low_pairs 256 pairs })
  bits_alone none zeros written =
      let four = no_words in
      let never_more : words * length pairs ≡ 0 = ap (λ w. w * length pairs) none ∙ omega arith in
      put (ap (take 4) written) (ap length written ∙ omega arith)
      (ap (λ n. pairs_of (keys_of (low_pairs 256 pairs)) (take n (drop 4 after.words))) never_more ∙ keys_alone 256 pairs zeros)
