-- How keys that move from word to word change all places together.
use Rattle.std.proofs.Common.{◌≡◌, ℕ, zero, suc, ◌+◌, ◌-◌, ◌*◌, ◌/◌, ◌%◌, ◌<◌, ◌≤◌, List, [], ◌∷◌, ◌++◌, length, take, drop, get_or, refl, ap, sym, ◌∙◌, subst, arith, drop-cons, get_or-take}
use Rattle.std.specs.List.{AllByRecursion}
use Rattle.std.proofs.Math.ListN.{set, length-set}
use Rattle.std.proofs.lemmas.List.{append_assoc, append-nil, drop-set, take-set, take-take, drop-drop, take-append-drop, length-take-le, length-drop, drop_all, drop-take, get_or_append_left}
use Rattle.std.proofs.lemmas.Nat.{div-add-mod'}
use Rattle.judy_block.specs.Contents.{Contents}
use Rattle.judy_leaf.specs.Packing.{places, places_of, pushed, pulled, HasZeroPadding, IsWidth}
use Rattle.judy_leaf.specs.Edits.{IsEdit, IsFirstPlace}
use Rattle.judy_leaf.proofs.KeysIn.{all_take, all_append}
use Rattle.judy_leaf.proofs.Placed.{per_pos, length-places, length-places_of, places_of-append}

-- ---- lists

-- What falls out of the first part goes into the second.
pub pushed-append : (at key : ℕ) (xs ys : List ℕ) → at < length xs → pushed at key xs ++ pushed zero (get_or xs (length xs - 1) 0) ys ≡ pushed at key (xs ++ ys)
pushed-append at key [] ys inside = let never : ⊥ = omega arith in absurd never
pushed-append zero key (x ∷ []) ys inside = refl
pushed-append zero key (x ∷ y ∷ xs) ys inside =
    ap (λ n. key ∷ (pushed zero x (y ∷ xs) ++ pushed zero n ys)) (last_of_more y xs)
    ∙ ap (λ rest. key ∷ rest) (pushed-append zero x (y ∷ xs) ys (omega arith))
  where
    last_of_more : (y : ℕ) (xs : List ℕ) → get_or (x ∷ y ∷ xs) (length (x ∷ y ∷ xs) - 1) 0 ≡ get_or (y ∷ xs) (length (y ∷ xs) - 1) 0
    last_of_more y xs = ap (λ n. get_or (x ∷ y ∷ xs) n 0) (let e : length (x ∷ y ∷ xs) - 1 ≡ suc (length (y ∷ xs) - 1) = omega arith in e)
pushed-append (suc at) key (x ∷ []) ys inside = let never : ⊥ = omega arith in absurd never
pushed-append (suc at) key (x ∷ y ∷ xs) ys inside =
    ap (λ n. x ∷ (pushed at key (y ∷ xs) ++ pushed zero n ys)) (last_of_more y xs)
    ∙ ap (λ rest. x ∷ rest) (pushed-append at key (y ∷ xs) ys (omega arith))
  where
    last_of_more : (y : ℕ) (xs : List ℕ) → get_or (x ∷ y ∷ xs) (length (x ∷ y ∷ xs) - 1) 0 ≡ get_or (y ∷ xs) (length (y ∷ xs) - 1) 0
    last_of_more y xs = ap (λ n. get_or (x ∷ y ∷ xs) n 0) (let e : length (x ∷ y ∷ xs) - 1 ≡ suc (length (y ∷ xs) - 1) = omega arith in e)

-- What stands before the place stays.
pub pushed-past : (at key : ℕ) (xs ys : List ℕ) → pushed (length xs + at) key (xs ++ ys) ≡ xs ++ pushed at key ys
pushed-past at key [] ys = ap (λ n. pushed n key ys) (let e : 0 + at ≡ at = omega arith in e)
pushed-past at key (x ∷ xs) ys = ap (λ n. pushed n key (x ∷ (xs ++ ys))) (let e : suc (length xs) + at ≡ suc (length xs + at) = omega arith in e) ∙ ap (λ rest. x ∷ rest) (pushed-past at key xs ys)

-- What the second part loses goes to the end of the first.
pub pulled-append : (at : ℕ) (xs ys : List ℕ) → at < length xs → pulled at (get_or ys 0 0) xs ++ pulled zero 0 ys ≡ pulled at 0 (xs ++ ys)
pulled-append at [] ys inside = let never : ⊥ = omega arith in absurd never
pulled-append zero (x ∷ xs) [] inside = append-nil (xs ++ 0 ∷ []) ∙ ap (λ l. l ++ 0 ∷ []) (sym (append-nil xs))
pulled-append zero (x ∷ xs) (y ∷ ys) inside = append_assoc xs (y ∷ []) (ys ++ 0 ∷ []) ∙ sym (append_assoc xs (y ∷ ys) (0 ∷ []))
pulled-append (suc at) (x ∷ xs) ys inside = ap (λ rest. x ∷ rest) (pulled-append at xs ys (omega arith))

pub pulled-past : (at last : ℕ) (xs ys : List ℕ) → pulled (length xs + at) last (xs ++ ys) ≡ xs ++ pulled at last ys
pulled-past at last [] ys = ap (λ n. pulled n last ys) (let e : 0 + at ≡ at = omega arith in e)
pulled-past at last (x ∷ xs) ys = ap (λ n. pulled n last (x ∷ (xs ++ ys))) (let e : suc (length xs) + at ≡ suc (length xs + at) = omega arith in e) ∙ ap (λ rest. x ∷ rest) (pulled-past at last xs ys)

-- ---- words of a block

module _ (width : ℕ) (is_width : IsWidth width) where
  -- The word at a place and those after it.
  pub from_word : (words : List ℕ) (word : ℕ) → word < length words → drop word words ≡ get_or words word 0 ∷ drop (word + 1) words
  from_word words word inside = drop-cons words word 0 inside ∙ ap (λ n. get_or words word 0 ∷ drop n words) (let e : suc word ≡ word + 1 = omega arith in e)

  all_drop : (P : ℕ → Type 0) (count : ℕ) (xs : List ℕ) → AllByRecursion P xs → AllByRecursion P (drop count xs)
  all_drop P zero xs all = all
  all_drop P (suc count) [] all = tt
  all_drop P (suc count) (x ∷ xs) all = all_drop P count xs all.1

  pub tight_from : (words : List ℕ) (start word : ℕ) → start ≤ word → AllByRecursion (HasZeroPadding width) (drop start words) → AllByRecursion (HasZeroPadding width) (drop word words)
  tight_from words start word from tight =
      let e : start + (word - start) ≡ word = omega arith in
      subst (AllByRecursion (HasZeroPadding width)) (drop-drop (word - start) start words ∙ ap (λ n. drop n words) e) (all_drop (HasZeroPadding width) (word - start) (drop start words) tight)

  pub tight_at : (words : List ℕ) (start word : ℕ) → start ≤ word → word < length words → AllByRecursion (HasZeroPadding width) (drop start words) → HasZeroPadding width (get_or words word 0)
  tight_at words start word from inside tight = (subst (AllByRecursion (HasZeroPadding width)) (from_word words word inside) (tight_from words start word from tight)).0

  -- One word more is done.
  pub one_word : (word : ℕ) (change mine : List ℕ → List ℕ) (before mid : Contents) (new : ℕ) → word < length before.words → IsEdit width (word + 1) change before mid
      → HasZeroPadding width new → places width new ++ change (places_of width (drop (word + 1) before.words)) ≡
      mine (places width (get_or before.words word 0) ++ places_of width (drop (word + 1) before.words))
      → IsEdit width word mine before (record mid { words = set mid.words word new })
  one_word word change mine before mid new inside edit tight joined =
      let long : length mid.words ≡ length before.words = edit.long in
      let behind : drop word (set mid.words word new) ≡ new ∷ drop (word + 1) mid.words = drop-set mid.words word new (omega arith) in
      let old : drop word before.words ≡ get_or before.words word 0 ∷ drop (word + 1) before.words = from_word before.words word inside in
      record {
        capacity = edit.capacity;
        tag = edit.tag;
        long = length-set mid.words word new ∙ long;
        front = take-set mid.words word new ∙ sym (take-take word (word + 1) mid.words (omega arith)) ∙ ap (take word) edit.front ∙ take-take word (word + 1) before.words (omega arith);
        changed = ap (places_of width) behind ∙ ap (λ rest. places width new ++ rest) edit.changed ∙ joined ∙ ap mine (ap (places_of width) (sym old));
        tight = subst (AllByRecursion (HasZeroPadding width)) (sym behind) (tight, edit.tight);
      }

  -- No word is done so far.
  pub no_word : (word : ℕ) (change : List ℕ → List ℕ) (block : Contents) → length block.words ≤ word → change [] ≡ [] → IsEdit width word change block block
  no_word word change block past none =
      let rest : drop word block.words ≡ [] = drop_all word block.words past in
      record {
        capacity = refl;
        tag = refl;
        long = refl;
        front = refl;
        changed = ap (places_of width) rest ∙ sym none ∙ ap change (ap (places_of width) (sym rest));
        tight = subst (AllByRecursion (HasZeroPadding width)) (sym rest) tt;
      }

  -- A word that is to be read isn't changed yet.
  pub not_yet : (at word : ℕ) (change : List ℕ → List ℕ) (before mid : Contents) → IsEdit width at change before mid → word < at → get_or mid.words word 0 ≡ get_or before.words word 0
  not_yet at word change before mid edit below = sym (get_or-take at mid.words word 0 below) ∙ ap (λ l. get_or l word 0) edit.front ∙ get_or-take at before.words word 0 below

  -- Nor are its keys packed otherwise.
  pub tight_still : (at word start : ℕ) (change : List ℕ → List ℕ) (before mid : Contents) → IsEdit width at change before mid → word < at → start ≤ word → word < length before.words
      → AllByRecursion (HasZeroPadding width) (drop start before.words) → HasZeroPadding width (get_or mid.words word 0)
  tight_still at word start change before mid edit below from inside tight =
      subst (HasZeroPadding width) (sym (not_yet at word change before mid edit below)) (tight_at before.words start word from inside tight)

  -- Keys that go up by a place: one word more.
  pub push_one : (word key : ℕ) (before mid : Contents) (at new : ℕ) → word < length before.words → at < 8 / width
      → IsEdit width (word + 1) (pushed zero (get_or (places width (get_or before.words word 0)) (8 / width - 1) 0)) before mid
      → HasZeroPadding width new → places width new ≡ pushed at key (places width (get_or before.words word 0))
      → IsEdit width word (pushed at key) before (record mid { words = set mid.words word new })
  push_one word key before mid at new inside there edit tight is =
      let here = places width (get_or before.words word 0) in
      let rest = places_of width (drop (word + 1) before.words) in
      let long = length-places width is_width (get_or before.words word 0) in
      one_word word (pushed zero (get_or here (8 / width - 1) 0)) (pushed at key) before mid new inside edit tight
      ((λ t. is t ++ pushed zero (get_or here (sym long t - 1) 0) rest) ∙ pushed-append at key here rest (omega arith))

  -- Keys that go down by a place: one word more.
  pub pull_one : (word first : ℕ) (before mid : Contents) (at new : ℕ) → word < length before.words → at < 8 / width → IsFirstPlace width (drop (word + 1) before.words) first
      → IsEdit width (word + 1) (pulled zero 0) before mid → HasZeroPadding width new → places width new ≡ pulled at first (places width (get_or before.words word 0))
      → IsEdit width word (pulled at 0) before (record mid { words = set mid.words word new })
  pull_one word first before mid at new inside there is_first edit tight is =
      let here = places width (get_or before.words word 0) in
      let rest = places_of width (drop (word + 1) before.words) in
      let long = length-places width is_width (get_or before.words word 0) in
      one_word word (pulled zero 0) (pulled at 0) before mid new inside edit tight
      (ap (λ l. l ++ pulled zero 0 rest) (is ∙ ap (λ n. pulled at n here) is_first) ∙ pulled-append at here rest (omega arith))

  in_two : (words : List ℕ) (start more : ℕ) → drop start words ≡ take more (drop start words) ++ drop (start + more) words
  in_two words start more = sym (take-append-drop more (drop start words)) ∙ ap (λ rest. take more (drop start words) ++ rest) (drop-drop more start words)

  -- A change from a word on, seen from an earlier one.
  pub from_earlier : (start more : ℕ) (mine change : List ℕ → List ℕ) (before after : Contents) → start + more < length before.words → IsEdit width (start + more) change before after
      → ((xs ys : List ℕ) → length xs ≡ more * (8 / width) → mine (xs ++ ys) ≡ xs ++ change ys) → AllByRecursion (HasZeroPadding width) (drop start before.words) → IsEdit width start mine before after
  from_earlier start more mine change before after inside edit past tight =
      let between = take more (drop start before.words) in
      let rest = drop (start + more) before.words in
      let same : take more (drop start after.words) ≡ between = sym (drop-take start more after.words) ∙ ap (drop start) edit.front ∙ drop-take start more before.words in
      let new : drop start after.words ≡ between ++ drop (start + more) after.words = in_two after.words start more ∙ ap (λ l. l ++ drop (start + more) after.words) same in
      let old : drop start before.words ≡ between ++ rest = in_two before.words start more in
      let left = length-drop start before.words in
      let long : length between ≡ more = length-take-le more (drop start before.words) (omega arith) in
      let count : length (places_of width between) ≡ more * (8 / width) = length-places_of width is_width between ∙ ap (λ n. n * (8 / width)) long in
      record {
        capacity = edit.capacity;
        tag = edit.tag;
        long = edit.long;
        front = sym (take-take start (start + more) after.words (omega arith)) ∙ ap (take start) edit.front ∙ take-take start (start + more) before.words (omega arith);
        changed = ap (places_of width) new ∙ places_of-append width is_width between (drop (start + more) after.words)
            ∙ ap (λ l. places_of width between ++ l) edit.changed ∙ sym (past (places_of width between) (places_of width rest) count)
            ∙ ap mine (sym (places_of-append width is_width between rest) ∙ ap (places_of width) (sym old));
        tight =
            subst (AllByRecursion (HasZeroPadding width)) (sym new) (all_append (HasZeroPadding width) between (drop (start + more) after.words)
            (all_take (HasZeroPadding width) more (drop start before.words) tight) edit.tight);
      }

  -- The place of a key, by its word and its place there.
  by_word : (at : ℕ) (count : ℕ) → count ≡ at / (8 / width) * (8 / width) → at ≡ count + at % (8 / width)
  by_word at count is = let whole = div-add-mod' at (8 / width) in omega arith

  -- Keys that go up by a place from a key on.
  pub push_from : (start at key : ℕ) (before after : Contents) → start + at / (8 / width) < length before.words → AllByRecursion (HasZeroPadding width) (drop start before.words)
      → IsEdit width (start + at / (8 / width)) (pushed (at % (8 / width)) key) before after → IsEdit width start (pushed at key) before after
  push_from start at key before after inside tight edit =
      from_earlier start (at / (8 / width)) (pushed at key) (pushed (at % (8 / width)) key) before after inside edit
      (λ xs ys long. ap (λ n. pushed n key (xs ++ ys)) (by_word at (length xs) long) ∙ pushed-past (at % (8 / width)) key xs ys) tight

  pub pull_from : (start at : ℕ) (before after : Contents) → start + at / (8 / width) < length before.words → AllByRecursion (HasZeroPadding width) (drop start before.words)
      → IsEdit width (start + at / (8 / width)) (pulled (at % (8 / width)) 0) before after → IsEdit width start (pulled at 0) before after
  pull_from start at before after inside tight edit =
      from_earlier start (at / (8 / width)) (pulled at 0) (pulled (at % (8 / width)) 0) before after inside edit
      (λ xs ys long. ap (λ n. pulled n 0 (xs ++ ys)) (by_word at (length xs) long) ∙ pulled-past (at % (8 / width)) 0 xs ys) tight

  -- The first of the places from a word on is the first of that word.
  pub first_here : (words : List ℕ) (word : ℕ) → word < length words → get_or (places width (get_or words word 0)) 0 0 ≡ get_or (places_of width (drop word words)) 0 0
  first_here words word inside =
      let here = places width (get_or words word 0) in
      let long = length-places width is_width (get_or words word 0) in
      let some = per_pos width is_width in
      sym (get_or_append_left here (places_of width (drop (word + 1) words)) 0 0 (omega arith)) ∙ ap (λ l. get_or (places_of width l) 0 0) (sym (from_word words word inside))

  pub first_none : (words : List ℕ) (word : ℕ) → length words ≤ word → IsFirstPlace width (drop word words) 0
  first_none words word past = ap (λ l. get_or (places_of width l) 0 0) (sym (drop_all word words past))
