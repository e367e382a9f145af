-- Packed keys with a word more or less, and with a key more or less.
use Rattle.std.proofs.Common.{◌≡◌, ℕ, zero, suc, ◌+◌, ◌-◌, ◌*◌, ◌/◌, ◌%◌, ◌^◌, ◌<◌, ◌≤◌, List, [], ◌∷◌, ◌++◌, length, take, drop, replicate, refl, ap, sym, ◌∙◌, subst, arith}
use Rattle.std.specs.List.{AllByRecursion, insert, remove}
use Rattle.std.proofs.Math.Nat.{div-eq_of_lt, mod-eq_of_lt}
use Rattle.std.proofs.lemmas.List.{append-nil, take-append-le, drop-append-le, length-append, length-drop, length-take-le, drop_all, take-append-drop, drop-take, take-take}
use Rattle.judy_block.specs.Contents.{Contents, with_gap, without_gap}
use Rattle.judy_leaf.specs.Packing.{digits, places, places_of, keys_in, pushed, pulled, IsPacked, HasZeroPadding, IsWidth}
use Rattle.judy_leaf.specs.Edits.{IsEdit}
use Rattle.judy_leaf.specs.Leaves.{words_for, keys_from, AreKeysFrom}
use Rattle.judy_leaf.specs.KeyChanges.{IsKeyChange, HasPlace}
use Rattle.judy_leaf.proofs.Digits.{power_pos}
use Rattle.judy_leaf.proofs.WordSteps.{base_pos}
use Rattle.judy_leaf.proofs.KeysIn.{all_append}
use Rattle.judy_leaf.proofs.Placed.{length-places_of, places_of-append}
use Rattle.judy_leaf.proofs.ListEdits.{take-pushed, drop-pushed, take-pulled, drop-pulled, front_of_zeros}
use Rattle.judy_leaf.proofs.WordsFor.{enough, words_grow, words_by_one}

replicate-add : (first second x : ℕ) → replicate first x ++ replicate second x ≡ replicate (first + second) x
replicate-add zero second x = ap (λ n. replicate n x) (let e : second ≡ 0 + second = omega arith in e)
replicate-add (suc first) second x = ap (λ rest. x ∷ rest) (replicate-add first second x) ∙ ap (λ n. replicate n x) (let e : suc (first + second) ≡ suc first + second = omega arith in e)

all_front : (P : ℕ → Type 0) (xs ys : List ℕ) → AllByRecursion P (xs ++ ys) → AllByRecursion P xs
all_front P [] ys all = tt
all_front P (x ∷ xs) ys all = (all.0, all_front P xs ys all.1)

module _ (width : ℕ) (is : IsWidth width) where
  -- The places of the word 0 are zeros.
  digits-zero : (base count : ℕ) → 0 < base → digits base count 0 ≡ replicate count 0
  digits-zero base zero some = refl
  digits-zero base (suc count) some =
      let low : 0 % base ≡ 0 = mod-eq_of_lt some in
      let high : 0 / base ≡ 0 = div-eq_of_lt some in
      λ t. low t ∷ (ap (digits base count) high ∙ digits-zero base count some) t

  places_of-zero : places_of width (0 ∷ []) ≡ replicate (8 / width) 0
  places_of-zero = append-nil (places width 0) ∙ digits-zero (256 ^ width) (8 / width) (base_pos width is)

  module _ (count : ℕ) (xs : List ℕ) (packed : IsPacked width count xs) where
    long : length (places_of width xs) ≡ length xs * (8 / width)
    long = length-places_of width is xs

    -- A word of zeros more.
    pub packed_more : IsPacked width count (xs ++ 0 ∷ []) × (keys_in width count (xs ++ 0 ∷ []) ≡ keys_in width count xs)
    packed_more =
        let parts : places_of width (xs ++ 0 ∷ []) ≡ places_of width xs ++ replicate (8 / width) 0 = places_of-append width is xs (0 ∷ []) ∙ ap (λ l. places_of width xs ++ l) places_of-zero in
        let within : count ≤ length (places_of width xs) = let h = long in let e = packed.enough in omega arith in
        let one_more : length (xs ++ 0 ∷ []) ≡ length xs + 1 = length-append xs (0 ∷ []) in
        let whole : length (xs ++ 0 ∷ []) * (8 / width) ≡ length xs * (8 / width) + 8 / width = ap (λ n. n * (8 / width)) one_more ∙ omega arith in
        let fits = packed.enough in
        let sum : length xs * (8 / width) - count + 8 / width ≡ length (xs ++ 0 ∷ []) * (8 / width) - count = omega arith in (
          record {
            is_width = is;
            enough = omega arith;
            clear = ap (drop count) parts ∙ drop-append-le count (places_of width xs) (replicate (8 / width) 0) within ∙ ap (λ l. l ++ replicate (8 / width) 0) packed.clear
                ∙ replicate-add (length xs * (8 / width) - count) (8 / width) 0 ∙ ap (λ n. replicate n 0) sum;
            tight = all_append (HasZeroPadding width) xs (0 ∷ []) packed.tight (power_pos (256 ^ width) (base_pos width is) (8 / width), tt);
          },
          ap (take count) parts ∙ take-append-le count (places_of width xs) (replicate (8 / width) 0) within,
        )

    -- A key more.
    pub packed_with : (at key : ℕ) (ys : List ℕ) → at ≤ count → count + 1 ≤ length xs * (8 / width) → length ys ≡ length xs → places_of width ys ≡ pushed at key (places_of width xs) →
        AllByRecursion (HasZeroPadding width) ys
        → IsPacked width (count + 1) ys × (keys_in width (count + 1) ys ≡ insert (keys_in width count xs) at key)
    packed_with at key ys place room same changed tight =
        let h = long in
        let left = length xs * (8 / width) - (count + 1) in
        let one : length xs * (8 / width) - count ≡ suc left = omega arith in
        let all : length xs * (8 / width) ≡ length ys * (8 / width) = ap (λ n. n * (8 / width)) (sym same) in (
          record {
            is_width = is;
            enough = omega arith;
            clear = ap (drop (count + 1)) changed ∙ drop-pushed at key count left (places_of width xs) place (packed.clear ∙ ap (λ n. replicate n 0) one) ∙ ap (λ n. replicate (n - (count + 1)) 0) all;
            tight = tight;
          },
          ap (take (count + 1)) changed ∙ take-pushed at key count (places_of width xs) place (omega arith),
        )

  -- A key less.
  pub packed_without : (count : ℕ) (xs : List ℕ) → IsPacked width (count + 1) xs → (at : ℕ) (ys : List ℕ) → at ≤ count → length ys ≡ length xs →
      places_of width ys ≡ pulled at 0 (places_of width xs) → AllByRecursion (HasZeroPadding width) ys
      → IsPacked width count ys × (keys_in width count ys ≡ remove (keys_in width (count + 1) xs) at)
  packed_without count xs packed at ys place same changed tight =
      let h = length-places_of width is xs in
      let room = packed.enough in
      let left = length xs * (8 / width) - (count + 1) in
      let one : suc left ≡ length xs * (8 / width) - count = omega arith in
      let all : length xs * (8 / width) ≡ length ys * (8 / width) = ap (λ n. n * (8 / width)) (sym same) in (
        record {
          is_width = is;
          enough = omega arith;
          clear = ap (drop count) changed ∙ drop-pulled at count left (places_of width xs) place (omega arith) packed.clear ∙ ap (λ n. replicate n 0) one ∙ ap (λ n. replicate (n - count) 0) all;
          tight = tight;
        },
        ap (take count) changed ∙ take-pulled at count (places_of width xs) place (omega arith),
      )

  -- A word less, where the keys don't need it.
  pub packed_front : (count : ℕ) (xs ys : List ℕ) → IsPacked width count (xs ++ ys) → count ≤ length xs * (8 / width) →
      IsPacked width count xs × (keys_in width count xs ≡ keys_in width count (xs ++ ys))
  packed_front count xs ys packed room =
      let parts : places_of width (xs ++ ys) ≡ places_of width xs ++ places_of width ys = places_of-append width is xs ys in
      let h = length-places_of width is xs in
      let behind : drop count (places_of width xs) ++ places_of width ys ≡ replicate (length (xs ++ ys) * (8 / width) - count) 0 =
      sym (drop-append-le count (places_of width xs) (places_of width ys) (omega arith)) ∙ ap (drop count) (sym parts) ∙ packed.clear in
      let left = length-drop count (places_of width xs) in
      let size : length (drop count (places_of width xs)) ≡ length xs * (8 / width) - count = omega arith in (
        record {
          is_width = is;
          enough = room;
          clear = front_of_zeros (drop count (places_of width xs)) (places_of width ys) (length (xs ++ ys) * (8 / width) - count) behind ∙ ap (λ n. replicate n 0) size;
          tight = all_front (HasZeroPadding width) xs ys packed.tight;
        },
        sym (take-append-le count (places_of width xs) (places_of width ys) (omega arith)) ∙ ap (take count) (sym parts),
      )

  -- ---- in a block

  -- A word of zeros at the block's end.
  pub placed_more : (start count : ℕ) (block : Contents) (words : List ℕ) → AreKeysFrom width count start block → words_for width count < words_for width (count + 1) →
      words ≡ with_gap (start + words_for width count) 1 block.words
      → HasPlace width count start block (record block { words = words })
  placed_more start count block words keys more gap =
      let exact = keys.exact in
      let end = start + words_for width count in
      let all : take end block.words ≡ block.words = take_whole end block.words (omega arith) in
      let none : drop end block.words ≡ [] = drop_all end block.words (omega arith) in
      let new : words ≡ block.words ++ 0 ∷ [] = gap ∙ (λ t. all t ++ (replicate 1 0 ++ none t)) in
      let behind : drop start words ≡ drop start block.words ++ 0 ∷ [] = ap (drop start) new ∙ drop-append-le start block.words (0 ∷ []) (omega arith) in
      let one = words_by_one width is count in
      let packed = packed_more count (drop start block.words) keys.packed in
      record {
        capacity = refl;
        tag = refl;
        front = ap (take start) new ∙ take-append-le start block.words (0 ∷ []) (omega arith);
        exact = ap length new ∙ length-append block.words (0 ∷ []) ∙ (let e : length block.words + 1 ≡ start + words_for width (count + 1) = omega arith in e);
        packed = subst (IsPacked width count) (sym behind) packed.0;
        keys = ap (keys_in width count) behind ∙ packed.1;
      }
    where
      take_whole : (count : ℕ) (xs : List ℕ) → length xs ≤ count → take count xs ≡ xs
      take_whole zero [] h = refl
      take_whole (suc count) [] h = refl
      take_whole zero (x ∷ xs) h = let never : ⊥ = omega arith in absurd never
      take_whole (suc count) (x ∷ xs) h = ap (λ rest. x ∷ rest) (take_whole count xs (omega arith))

  -- A key put in.
  pub key_put : (start count at key : ℕ) (before mid after : Contents) → count < 32 → at ≤ count → HasPlace width count start before mid → IsEdit width start (pushed at key) mid after
      → IsKeyChange width start count (count + 1) (λ keys. insert keys at key) before after
  key_put start count at key before mid after few place has edit =
      let exact = has.exact in
      let long = edit.long in
      let some = enough width is (count + 1) in
      let old = length-drop start mid.words in
      let new = length-drop start after.words in
      let size : length (drop start mid.words) ≡ words_for width (count + 1) = omega arith in
      let result = packed_with count (drop start mid.words) has.packed at key (drop start after.words) place (subst (λ n. count + 1 ≤ n * (8 / width)) (sym size) some)
      (omega arith) edit.changed edit.tight in
      record {
        capacity = edit.capacity ∙ has.capacity;
        tag = edit.tag ∙ has.tag;
        front = edit.front ∙ has.front;
        keys = record { few = omega arith; exact = long ∙ exact; packed = result.0 };
        changed = result.1 ∙ ap (λ keys. insert keys at key) has.keys;
      }

  -- A key taken out: the words are still those of all.
  key_taken : (start count at : ℕ) (before mid : Contents) → at ≤ count → AreKeysFrom width (count + 1) start before → IsEdit width start (pulled at 0) before mid
      → IsPacked width count (drop start mid.words) × (keys_from width count start mid ≡ remove (keys_from width (count + 1) start before) at)
  key_taken start count at before mid place keys edit =
      let long = edit.long in
      let old = length-drop start before.words in
      let new = length-drop start mid.words in
      packed_without count (drop start before.words) keys.packed at (drop start mid.words) place (omega arith) edit.changed edit.tight

  -- The same by how many there were.
  pub key_less : (start count at : ℕ) (before mid : Contents) → at < count → AreKeysFrom width count start before → IsEdit width start (pulled at 0) before mid
      → IsPacked width (count - 1) (drop start mid.words) × (keys_from width (count - 1) start mid ≡ remove (keys_from width count start before) at)
  key_less start count at before mid inside keys edit =
      let e : count ≡ count - 1 + 1 = omega arith in
      let taken = key_taken start (count - 1) at before mid (omega arith) (subst (λ n. AreKeysFrom width n start before) e keys) edit in
      (taken.0, taken.1 ∙ ap (λ n. remove (keys_from width n start before) at) (sym e))

  -- And without the word that isn't needed.
  pub word_dropped : (start count : ℕ) (block : Contents) (words : List ℕ) → count < 32 → IsPacked width count (drop start block.words) → length block.words ≡ start + words_for width (count + 1)
      → words_for width count < words_for width (count + 1) → words ≡ without_gap (start + words_for width count) 1 block.words
      → IsKeyChange width start count count (λ keys. keys) block (record block { words = words })
  word_dropped start count block words few packed exact more gap =
      let one = words_by_one width is count in
      let end = start + words_for width count in
      let none : drop (end + 1) block.words ≡ [] = drop_all (end + 1) block.words (omega arith) in
      let new : words ≡ take end block.words = gap ∙ ap (λ l. take end block.words ++ l) none ∙ append-nil (take end block.words) in
      let behind : drop start words ≡ take (words_for width count) (drop start block.words) = ap (drop start) new ∙ drop-take start (words_for width count) block.words in
      let split : take (words_for width count) (drop start block.words) ++ drop (words_for width count) (drop start block.words) ≡
      drop start block.words = take-append-drop (words_for width count) (drop start block.words) in
      let all = length-drop start block.words in
      let size : length (take (words_for width count) (drop start block.words)) ≡ words_for width count = length-take-le (words_for width count) (drop start block.words) (omega arith) in
      let room : count ≤ length (take (words_for width count) (drop start block.words)) * (8 / width) = subst (λ n. count ≤ n * (8 / width)) (sym size) (enough width is count) in
      let result = packed_front count (take (words_for width count) (drop start block.words)) (drop (words_for width count) (drop start block.words))
      (subst (IsPacked width count) (sym split) packed) room in
      record {
        capacity = refl;
        tag = refl;
        front = ap (take start) new ∙ take-take start end block.words (omega arith);
        keys = record { few = omega arith; exact = ap length new ∙ length-take-le end block.words (omega arith); packed = subst (IsPacked width count) (sym behind) result.0 };
        changed = ap (keys_in width count) behind ∙ result.1 ∙ ap (keys_in width count) split;
      }

  -- Or with all words, where they are needed.
  pub words_kept : (start count : ℕ) (block : Contents) → count < 32 → IsPacked width count (drop start block.words) → length block.words ≡ start + words_for width (count + 1)
      → words_for width (count + 1) ≤ words_for width count → IsKeyChange width start count count (λ keys. keys) block block
  words_kept start count block few packed exact most =
      let grow = words_grow width is count in
      record { capacity = refl; tag = refl; front = refl; keys = record { few = omega arith; exact = exact ∙ omega arith; packed = packed }; changed = refl }
