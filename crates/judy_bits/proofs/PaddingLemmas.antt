-- Bytes in an array that is filled up: one more in its place, and one less.
use Rattle.std.proofs.Common.{◌≡◌, ℕ, zero, suc, ◌+◌, ◌-◌, ◌<◌, ◌≤◌, Bool, cond, nat_lt, List, [], ◌∷◌, ◌++◌, length, filter, count_by, take, drop, get_or, slice_get, Some, sym}
use Rattle.std.proofs.Common.{refl, ap, ◌∙◌, arith, get_or-take, drop-cons}
use borrow.Rule.Slice.PartMut.{put_mid}
use Rattle.std.proofs.Math.ListN.{set, drop_of_length-le}
use Rattle.std.proofs.lemmas.List.{append-nil, take_more, take_all, drop-drop, set_at}
use Rattle.std.proofs.lemmas.List.Sums.{length-filter, sum_by-cons, sum_by-take-drop}
use Rattle.std.proofs.lemmas.Option.{slice_get-get_or}
use Rattle.judy_model.proofs.lemmas.orders.WordOrder.{is_lt_word}
use Rattle.judy_bits.specs.ByteSets.{rank}
use Rattle.judy_bits.proofs.SetLemmas.{not_less}
use Rattle.std.specs.List.{insert, remove}
use Rattle.std.proofs.Math.ListN.{replicate}
use Rattle.std.proofs.Math.Seq.{take-append_seam, drop-append_seam, take-append-add}
use Rattle.std.proofs.lemmas.List.{append_assoc, take-append-drop, take-append-le, drop-append-le, length-append, length-take, length-drop, length-replicate}
use Rattle.judy_bits.specs.Paddings.{IsPadded, length-meant}

-- ---- by parts: some bytes, more bytes, and the filler

take_parts : (at : ℕ) (front rest : List ℕ) → length front ≡ at → take at (front ++ rest) ≡ front
take_parts at front rest long = ap (λ n. take n (front ++ rest)) (sym long) ∙ take-append_seam front rest

drop_parts : (at : ℕ) (front rest : List ℕ) → length front ≡ at → drop at (front ++ rest) ≡ rest
drop_parts at front rest long = ap (λ n. drop n (front ++ rest)) (sym long) ∙ drop-append_seam front rest

take-replicate : (count filler : ℕ) → take count (replicate (suc count) filler) ≡ replicate count filler
take-replicate zero filler = refl
take-replicate (suc count) filler = ap (λ rest. filler ∷ rest) (take-replicate count filler)

replicate_last : (count filler : ℕ) → replicate count filler ++ filler ∷ [] ≡ replicate (suc count) filler
replicate_last zero filler = refl
replicate_last (suc count) filler = ap (λ rest. filler ∷ rest) (replicate_last count filler)

module _ (filler : ℕ) where
  -- Bytes and as many of the filler as there is room for are padded.
  pub IsPadded-from : (xs : List ℕ) (count : ℕ) → length xs ≡ count → count ≤ 7 → IsPadded filler (xs ++ replicate (7 - count) filler) count
  IsPadded-from xs count long within = record {
    seven = length-append xs (replicate (7 - count) filler) ∙ (let rest = length-replicate (7 - count) filler in omega arith);
    within = within;
    filled = drop_parts count xs (replicate (7 - count) filler) long;
  }

  pub take-from : (xs : List ℕ) (count : ℕ) → length xs ≡ count → take count (xs ++ replicate (7 - count) filler) ≡ xs
  take-from xs count long = take_parts count xs (replicate (7 - count) filler) long

  module _ (array : List ℕ) (count at : ℕ) (is : IsPadded filler array count) where
    whole : array ≡ take count array ++ replicate (7 - count) filler
    whole = sym (take-append-drop count array) ∙ ap (λ rest. take count array ++ rest) is.filled

    -- One more, put in at a place.
    pub opened : (byte : ℕ) → count < 7 → at ≤ count → take at array ++ byte ∷ take (6 - at) (drop at array) ≡ insert (take count array) at byte ++ replicate (7 - (count + 1)) filler
    opened byte room within =
        let xs = take count array in
        let front = take at xs in
        let back = drop at xs in
        let left = 6 - count in
        let long : length xs ≡ count = length-meant filler array count is in
        let front_long : length front ≡ at = length-take at xs ∙ (let h = long in omega arith) in
        let back_long : length back ≡ count - at = length-drop at xs ∙ (let h = long in omega arith) in
        let room_left : 7 - count ≡ suc left = omega arith in
        let after : left ≡ 7 - (count + 1) = omega arith in
        let in_parts : array ≡ front ++ (back ++ replicate (suc left) filler) =
        whole ∙ (λ t. sym (take-append-drop at xs) t ++ replicate (room_left t) filler) ∙ append_assoc front back (replicate (suc left) filler) in
        let rest : 6 - at ≡ length back + left = omega arith in
        let moved : take (6 - at) (drop at array) ≡ back ++ replicate left filler =
        ap (λ l. take (6 - at) (drop at l)) in_parts
        ∙ ap (take (6 - at)) (drop_parts at front (back ++ replicate (suc left) filler) front_long)
        ∙ ap (λ n. take n (back ++ replicate (suc left) filler)) rest
        ∙ take-append-add back (replicate (suc left) filler) left
        ∙ ap (λ l. back ++ l) (take-replicate left filler) in
        (λ t. (ap (take at) in_parts ∙ take_parts at front (back ++ replicate (suc left) filler) front_long) t ++ byte ∷ moved t)
        ∙ sym (append_assoc front (byte ∷ back) (replicate left filler))
        ∙ ap (λ n. (front ++ byte ∷ back) ++ replicate n filler) after

    pub length-opened : (byte : ℕ) → at ≤ count → length (insert (take count array) at byte) ≡ count + 1
    length-opened byte within =
        let xs = take count array in
        let long : length xs ≡ count = length-meant filler array count is in
        let both = length-append (take at xs) (byte ∷ drop at xs) in
        let first = length-take at xs in
        let second = length-drop at xs in
        omega arith

    -- One less, taken away from a place.
    pub closed : at < count → remove array at ++ filler ∷ [] ≡ remove (take count array) at ++ replicate (7 - (count - 1)) filler
    closed inside =
        let xs = take count array in
        let fill = replicate (7 - count) filler in
        let long : length xs ≡ count = length-meant filler array count is in
        let within : count ≤ 7 = is.within in
        let more : suc (7 - count) ≡ 7 - (count - 1) = omega arith in
        ap (λ l. remove l at ++ filler ∷ []) whole
        ∙ (λ t. (take-append-le at xs fill (omega arith) t ++ drop-append-le (suc at) xs fill (omega arith) t) ++ filler ∷ [])
        ∙ ap (λ l. l ++ filler ∷ []) (sym (append_assoc (take at xs) (drop (suc at) xs) fill))
        ∙ append_assoc (remove xs at) fill (filler ∷ [])
        ∙ ap (λ l. remove xs at ++ l) (replicate_last (7 - count) filler)
        ∙ ap (λ n. remove xs at ++ replicate n filler) more

    pub length-closed : at < count → length (remove (take count array) at) ≡ count - 1
    length-closed inside =
        let xs = take count array in
        let long : length xs ≡ count = length-meant filler array count is in
        let both = length-append (take at xs) (drop (suc at) xs) in
        let first = length-take at xs in
        let second = length-drop (suc at) xs in
        omega arith

-- The byte at a place among those that are meant.
pub meant_at : (filler : ℕ) (array : List ℕ) (count at : ℕ) → IsPadded filler array count → at < count → slice_get (take count array) at ≡ Some (get_or array at 0)
meant_at filler array count at is inside =
    let long = length-meant filler array count is in
    slice_get-get_or (take count array) at 0 (omega arith) ∙ ap Some (get_or-take count array at 0 inside)

none_below : (count byte : ℕ) → byte < 256 → count_by (λ member. nat_lt member byte) (replicate count 255) ≡ 0
none_below zero byte small = refl
none_below (suc count) byte small =
    sum_by-cons (λ member. cond (nat_lt member byte) 1 0) 255 (replicate count 255)
    ∙ (λ t. cond (not_less 255 byte (let e : byte ≤ 255 = omega arith in e) t) 1 0 + none_below count byte small t)

-- Among bytes that are filled up with 255 as many are below a byte as among those that are meant.
pub count_by-padded : (array : List ℕ) (count byte : ℕ) → IsPadded 255 array count → byte < 256 → count_by (λ member. nat_lt member byte) array ≡ rank (take count array) byte
count_by-padded array count byte is small =
    let q : ℕ → Bool = λ member. nat_lt member byte in
    let parts = sum_by-take-drop (λ member. cond (nat_lt member byte) 1 0) array count in
    let none : count_by q (drop count array) ≡ 0 = ap (count_by q) is.filled ∙ none_below (7 - count) byte small in
    let meant : count_by q array ≡ count_by q (take count array) = omega arith in
    meant ∙ sym (length-filter q (take count array)) ∙ (λ t. length (filter (λ member. sym (is_lt_word member byte) t) (take count array)))

-- ---- the edits of the array

-- Bytes moved up by one from a place on, and a byte put there.
pub opened_array : (xs ys : List ℕ) (at byte : ℕ) → length xs ≡ 7 → at < 7 → ys ≡ take (6 - at) (drop at xs) →
    set (put_mid (at + 1) (7 - (at + 1)) xs ys) at byte ≡ take at xs ++ byte ∷ take (6 - at) (drop at xs)
opened_array xs ys at byte seven inside moved =
    let none : drop (7 - (at + 1)) (drop (at + 1) xs) ≡ [] = drop_of_length-le (drop (at + 1) xs) (let long = length-drop (at + 1) xs in omega arith) in
    let first : length (take at xs) ≡ at = length-take at xs ∙ (let h = seven in omega arith) in
    ap (λ l. set l at byte) ((λ t. take_more xs at 0 (omega arith) t ++ (moved t ++ none t)) ∙ (λ t. (take at xs ++ get_or xs at 0 ∷ []) ++ append-nil (take (6 - at) (drop at xs)) t) ∙
    append_assoc (take at xs) (get_or xs at 0 ∷ []) (take (6 - at) (drop at xs)))
    ∙ set_at (take at xs) (get_or xs at 0) (take (6 - at) (drop at xs)) byte at first

-- Bytes moved down by one onto a place, and 255 put last.
pub closed_array : (xs ys : List ℕ) (at : ℕ) → length xs ≡ 7 → at < 7 → ys ≡ take (7 - (at + 1)) (drop (at + 1) xs) → set (put_mid at (6 - at) xs ys) 6 255 ≡ remove xs at ++ 255 ∷ []
closed_array xs ys at seven inside moved =
    let one : at + 1 ≡ suc at = omega arith in
    let rest : ys ≡ drop (suc at) xs = moved ∙ ap (λ n. take (7 - n) (drop n xs)) one ∙ take_all (7 - suc at) (drop (suc at) xs) (let long = length-drop (suc at) xs in omega arith) in
    let six : at + (6 - at) ≡ 6 = omega arith in
    let none : drop 7 xs ≡ [] = drop_of_length-le xs {i = 7} (let h = seven in omega arith) in
    let last : drop (6 - at) (drop at xs) ≡ get_or xs 6 0 ∷ [] = drop-drop (6 - at) at xs ∙ ap (λ n. drop n xs) six ∙ drop-cons xs 6 0 (omega arith) ∙ ap (λ l. get_or xs 6 0 ∷ l) none in
    let long : length (take at xs ++ drop (suc at) xs) ≡ 6 = length-append (take at xs) (drop (suc at) xs) ∙
    (let first = length-take at xs in let second = length-drop (suc at) xs in let h = seven in omega arith) in
    ap (λ l. set l 6 255) ((λ t. take at xs ++ (rest t ++ last t)) ∙ sym (append_assoc (take at xs) (drop (suc at) xs) (get_or xs 6 0 ∷ [])))
    ∙ set_at (take at xs ++ drop (suc at) xs) (get_or xs 6 0) [] 255 6 long
