-- Keys of which a word holds one: they are the words, and come and go with them.
use Rattle.std.proofs.Common.{◌≡◌, ℕ, zero, suc, ◌+◌, ◌-◌, ◌*◌, ◌/◌, ◌^◌, ◌<◌, ◌≤◌, List, [], ◌∷◌, ◌++◌, length, take, drop, replicate, set, refl, ap, sym, ◌∙◌, subst, arith}
use Rattle.std.specs.List.{AllByRecursion, insert, remove}
use Rattle.std.proofs.Math.Nat.{pow-zero, pow-suc, mod-eq_of_lt}
use Rattle.std.proofs.lemmas.List.{take_all, drop_all, length-drop}
use Rattle.judy_block.specs.Contents.{Contents, with_gap, without_gap}
use Rattle.judy_leaf.specs.Packing.{digits, places_of, keys_in, IsPacked, HasZeroPadding, IsWidth}
use Rattle.judy_leaf.specs.Leaves.{words_for, keys_from, AreKeysFrom}
use Rattle.judy_leaf.specs.KeyChanges.{IsKeyChange}
use Rattle.judy_leaf.proofs.ValueSteps.{put_is, without_is, length-insert, length-remove}

take-insert_before : (words : List ℕ) (start at word : ℕ) → start + at ≤ length words → take start (insert words (start + at) word) ≡ take start words
take-insert_before words zero at word inside = refl
take-insert_before [] (suc start) at word inside = let never : ⊥ = omega arith in absurd never
take-insert_before (x ∷ words) (suc start) at word inside =
    ap (λ n. take (suc start) (insert (x ∷ words) n word)) (let e : suc start + at ≡ suc (start + at) = omega arith in e) ∙ ap (λ rest. x ∷ rest) (take-insert_before words start at word (omega arith))

drop-insert_behind : (words : List ℕ) (start at word : ℕ) → start + at ≤ length words → drop start (insert words (start + at) word) ≡ insert (drop start words) at word
drop-insert_behind words zero at word inside = ap (λ n. insert words n word) (let e : 0 + at ≡ at = omega arith in e)
drop-insert_behind [] (suc start) at word inside = let never : ⊥ = omega arith in absurd never
drop-insert_behind (x ∷ words) (suc start) at word inside =
    ap (λ n. drop (suc start) (insert (x ∷ words) n word)) (let e : suc start + at ≡ suc (start + at) = omega arith in e) ∙ drop-insert_behind words start at word (omega arith)

take-remove_before : (words : List ℕ) (start at : ℕ) → start + at < length words → take start (remove words (start + at)) ≡ take start words
take-remove_before words zero at inside = refl
take-remove_before [] (suc start) at inside = let never : ⊥ = omega arith in absurd never
take-remove_before (x ∷ words) (suc start) at inside =
    ap (λ n. take (suc start) (remove (x ∷ words) n)) (let e : suc start + at ≡ suc (start + at) = omega arith in e) ∙ ap (λ rest. x ∷ rest) (take-remove_before words start at (omega arith))

drop-remove_behind : (words : List ℕ) (start at : ℕ) → start + at < length words → drop start (remove words (start + at)) ≡ remove (drop start words) at
drop-remove_behind words zero at inside = ap (remove words) (let e : 0 + at ≡ at = omega arith in e)
drop-remove_behind [] (suc start) at inside = let never : ⊥ = omega arith in absurd never
drop-remove_behind (x ∷ words) (suc start) at inside =
    ap (λ n. drop (suc start) (remove (x ∷ words) n)) (let e : suc start + at ≡ suc (start + at) = omega arith in e) ∙ drop-remove_behind words start at (omega arith)

all-insert : (P : ℕ → Type 0) (words : List ℕ) (at word : ℕ) → at ≤ length words → P word → AllByRecursion P words → AllByRecursion P (insert words at word)
all-insert P words zero word inside fits all = (fits, all)
all-insert P [] (suc at) word inside fits all = let never : ⊥ = omega arith in absurd never
all-insert P (x ∷ words) (suc at) word inside fits all = (all.0, all-insert P words at word (omega arith) fits all.1)

all-remove : (P : ℕ → Type 0) (words : List ℕ) (at : ℕ) → at < length words → AllByRecursion P words → AllByRecursion P (remove words at)
all-remove P [] at inside all = let never : ⊥ = omega arith in absurd never
all-remove P (x ∷ words) zero inside all = all.1
all-remove P (x ∷ words) (suc at) inside all = (all.0, all-remove P words at (omega arith) all.1)

module _ (width : ℕ) (is : IsWidth width) (one : 8 / width ≡ 1) where
  room : (word : ℕ) → HasZeroPadding width word → word < 256 ^ width
  room word tight =
      let power : (256 ^ width) ^ (8 / width) ≡ 256 ^ width = ap (λ n. (256 ^ width) ^ n) one ∙ pow-suc (256 ^ width) 0 ∙ ap (λ n. n * 256 ^ width) (pow-zero (256 ^ width)) ∙ omega arith in
      subst (λ bound. word < bound) power tight

  pub fits_word : (word : ℕ) → word < 256 ^ width → HasZeroPadding width word
  fits_word word below =
      let power : (256 ^ width) ^ (8 / width) ≡ 256 ^ width = ap (λ n. (256 ^ width) ^ n) one ∙ pow-suc (256 ^ width) 0 ∙ ap (λ n. n * 256 ^ width) (pow-zero (256 ^ width)) ∙ omega arith in
      subst (λ bound. word < bound) (sym power) below

  places_are : (words : List ℕ) → AllByRecursion (HasZeroPadding width) words → places_of width words ≡ words
  places_are [] tight = refl
  places_are (word ∷ words) tight =
      let same = mod-eq_of_lt (room word tight.0) in
      ap (λ n. digits (256 ^ width) n word ++ places_of width words) one ∙ (λ t. same t ∷ places_are words tight.1 t)

  -- Keys are words.
  pub keys_are : (count : ℕ) (words : List ℕ) → IsPacked width count words → keys_in width count words ≡ take count words
  keys_are count words packed = ap (take count) (places_are words packed.tight)

  pub words_are : (count : ℕ) → words_for width count ≡ count
  words_are count = (λ t. (count + (one t - 1)) / one t) ∙ whole count
    where
      whole : (n : ℕ) → (n + (1 - 1)) / 1 ≡ n
      whole n = omega arith

  pub packed_words : (count : ℕ) (words : List ℕ) → length words ≡ count → AllByRecursion (HasZeroPadding width) words → IsPacked width count words
  packed_words count words long tight =
      let all : length words * (8 / width) ≡ count = ap (λ n. length words * n) one ∙ omega arith in
      record {
        is_width = is;
        enough = omega arith;
        clear = ap (drop count) (places_are words tight) ∙ drop_all count words (omega arith) ∙ ap (λ n. replicate n 0) (let e : 0 ≡ length words * (8 / width) - count = omega arith in e);
        tight = tight;
      }

  module _ (start count at : ℕ) (before : Contents) (keys : AreKeysFrom width count start before) where
    long : length (drop start before.words) ≡ count
    long = length-drop start before.words ∙ (let exact = keys.exact in let words = words_are count in let e : length before.words - start ≡ count = omega arith in e)

    all_words : keys_from width count start before ≡ drop start before.words
    all_words = keys_are count (drop start before.words) keys.packed ∙ take_all count (drop start before.words) (let h = long in omega arith)

    -- A key put in.
    pub word_put : (key : ℕ) (words : List ℕ) → at ≤ count → count < 32 → key < 256 ^ width → words ≡ set (with_gap (start + at) 1 before.words) (start + at) key
        → IsKeyChange width start count (count + 1) (λ keys. insert keys at key) before (record before { words = words })
    word_put key words place few below is_new =
        let exact = keys.exact in
        let least = words_are count in
        let most = words_are (count + 1) in
        let h = long in
        let new : words ≡ insert before.words (start + at) key = is_new ∙ put_is before.words (start + at) key (omega arith) in
        let behind : drop start words ≡ insert (drop start before.words) at key = ap (drop start) new ∙ drop-insert_behind before.words start at key (omega arith) in
        let size : length (drop start words) ≡ count + 1 = ap length behind ∙ length-insert (drop start before.words) at key (omega arith) ∙ omega arith in
        let packed : IsPacked width (count + 1) (drop start words) =
        packed_words (count + 1) (drop start words) size (subst (AllByRecursion (HasZeroPadding width)) (sym behind)
        (all-insert (HasZeroPadding width) (drop start before.words) at key (omega arith) (fits_word key below) keys.packed.tight)) in
        record {
          capacity = refl;
          tag = refl;
          front = ap (take start) new ∙ take-insert_before before.words start at key (omega arith);
          keys = record {
            few = omega arith;
            exact = ap length new ∙ length-insert before.words (start + at) key (omega arith) ∙ (let e : suc (length before.words) ≡ start + words_for width (count + 1) = omega arith in e);
            packed = packed;
          };
          changed = keys_are (count + 1) (drop start words) packed ∙ take_all (count + 1) (drop start words) (omega arith) ∙ behind ∙ ap (λ list. insert list at key) (sym all_words);
        }

    -- A key taken out.
    pub word_taken : (words : List ℕ) → at < count → words ≡ without_gap (start + at) 1 before.words →
        IsKeyChange width start count (count - 1) (λ keys. remove keys at) before (record before { words = words })
    word_taken words inside is_new =
        let exact = keys.exact in
        let few = keys.few in
        let least = words_are count in
        let fewer = words_are (count - 1) in
        let h = long in
        let new : words ≡ remove before.words (start + at) = is_new ∙ without_is before.words (start + at) in
        let behind : drop start words ≡ remove (drop start before.words) at = ap (drop start) new ∙ drop-remove_behind before.words start at (omega arith) in
        let one_less = length-remove (drop start before.words) at (omega arith) in
        let size : length (drop start words) ≡ count - 1 = ap length behind ∙ omega arith in
        let packed : IsPacked width (count - 1) (drop start words) =
        packed_words (count - 1) (drop start words) size (subst (AllByRecursion (HasZeroPadding width)) (sym behind)
        (all-remove (HasZeroPadding width) (drop start before.words) at (omega arith) keys.packed.tight)) in
        let all_less = length-remove before.words (start + at) (omega arith) in
        record {
          capacity = refl;
          tag = refl;
          front = ap (take start) new ∙ take-remove_before before.words start at (omega arith);
          keys = record { few = omega arith; exact = ap length new ∙ (let e : length (remove before.words (start + at)) ≡ start + words_for width (count - 1) = omega arith in e); packed = packed };
          changed = keys_are (count - 1) (drop start words) packed ∙ take_all (count - 1) (drop start words) (omega arith) ∙ behind ∙ ap (λ list. remove list at) (sym all_words);
        }
