-- Records in words, one after the other: each of them, a new one behind them, and another one in the place of one.
use Rattle.std.proofs.Common.{◌≡◌, ℕ, zero, suc, ◌+◌, ◌-◌, ◌*◌, ◌<◌, ◌≤◌, List, [], ◌∷◌, ◌++◌, length, take, drop, get_or, set, refl, sym, ap, ◌∙◌, arith}
use Rattle.std.proofs.lemmas.Nat.{mul-le}
use Rattle.std.proofs.lemmas.List.{get_or-take, drop-take, length-drop, length-take-le, nil_from_length, drop-append-le, take-append-le, take-append-drop, get_or_append_left}
use Rattle.std.proofs.lemmas.List.{drop-drop, set_at, set_split, take_all}
use Rattle.judy_records.specs.Spots.{Spot, held}
use Rattle.judy_records.specs.PageInside.{first_spot, spots_in}

-- How many records they are.
pub length-spots : (count size : ℕ) (words : List ℕ) → length (spots_in count size words) ≡ count
length-spots zero size words = refl
length-spots (suc count) size words = ap (λ n. suc n) (length-spots count size (drop (size + 1) words))

-- A record ends where the next begins, within so many.
pub place-within : (at count stride : ℕ) → at < count → at * stride + stride ≤ count * stride
place-within at count stride inside =
    let more = mul-le (at + 1) stride count stride (omega arith) (omega arith) in
    let parts : (at + 1) * stride ≡ at * stride + stride = grind arith in
    omega (arith, more, parts)

step : (at size : ℕ) → size + 1 + at * (size + 1) ≡ suc at * (size + 1)
step at size = grind arith

-- The record at a place.
pub get-spots : (count size : ℕ) (words : List ℕ) (at : ℕ) (d : Spot) → at < count → get_or (spots_in count size words) at d ≡ first_spot size (drop (at * (size + 1)) words)
get-spots zero size words at d inside = absurd (omega arith)
get-spots (suc count) size words zero d inside = (let e : 0 ≡ 0 * (size + 1) = omega arith in ap (λ n. first_spot size (drop n words)) e)
get-spots (suc count) size words (suc at) d inside =
    get-spots count size (drop (size + 1) words) at d (omega arith)
    ∙ ap (first_spot size) (drop-drop (at * (size + 1)) (size + 1) words ∙ ap (λ n. drop n words) (step at size))

-- What follows a record doesn't matter to it.
pub first-append : (size : ℕ) (xs ys : List ℕ) → size + 1 ≤ length xs → first_spot size (xs ++ ys) ≡ first_spot size xs
first-append size xs ys long =
    let left = length-drop 1 xs in
    let value = get_or_append_left xs ys 0 0 (omega arith) in
    let text = ap (take size) (drop-append-le 1 xs ys (omega arith)) ∙ take-append-le size (drop 1 xs) ys (omega arith) in
    λ i. held (value i) (text i)

-- It is its own words, the value first.
pub first-taken : (size : ℕ) (words : List ℕ) → held (get_or (take (size + 1) words) 0 0) (drop 1 (take (size + 1) words)) ≡ first_spot size words
first-taken size words =
    let e : size + 1 ≡ 1 + size = omega arith in
    let value = get_or-take (size + 1) words 0 0 (omega arith) in
    let text = ap (λ n. drop 1 (take n words)) e ∙ drop-take 1 size words in
    λ i. held (value i) (text i)

-- Records behind others.
pub spots-append : (count more size : ℕ) (xs ys : List ℕ) → length xs ≡ count * (size + 1) → spots_in (count + more) size (xs ++ ys) ≡ spots_in count size xs ++ spots_in more size ys
spots-append zero more size xs ys long =
    let e : 0 + more ≡ more = omega arith in
    ap (λ n. spots_in n size (xs ++ ys)) e ∙ ap (λ front. spots_in more size (front ++ ys)) (nil_from_length xs (omega (arith, long)))
spots-append (suc count) more size xs ys long =
    let e = step count size in
    let one : suc count + more ≡ suc (count + more) = omega arith in
    let left = length-drop (size + 1) xs in
    let first = first-append size xs ys (omega arith) in
    let rest = ap (spots_in (count + more) size) (drop-append-le (size + 1) xs ys (omega arith)) ∙ spots-append count more size (drop (size + 1) xs) ys (omega arith) in
    ap (λ n. spots_in n size (xs ++ ys)) one ∙ (λ i. first i ∷ rest i)

module _ (count size : ℕ) (words : List ℕ) (long : length words ≡ count * (size + 1)) where
  -- One more at the end.
  pub spots-push : (new : List ℕ) → length new ≡ size + 1 → spots_in (count + 1) size (words ++ new) ≡ spots_in count size words ++ first_spot size new ∷ []
  spots-push new one = spots-append count 1 size words new long

  module _ (at : ℕ) (inside : at < count) where
    -- The words before a place, and those behind it.
    abbrev pub before : List ℕ
    before = take (at * (size + 1)) words

    abbrev pub behind : List ℕ
    behind = drop (size + 1) (drop (at * (size + 1)) words)

    before-long : length before ≡ at * (size + 1)
    before-long = (let within = place-within at count (size + 1) inside in length-take-le (at * (size + 1)) words (omega arith))

    spots-around : (one : List ℕ) → length one ≡ size + 1 → spots_in count size (before ++ (one ++ behind)) ≡ spots_in at size before ++ first_spot size one ∷ spots_in (count - (at + 1)) size behind
    spots-around one e =
        let parts : count ≡ at + (1 + (count - (at + 1))) = omega arith in
        ap (λ n. spots_in n size (before ++ (one ++ behind))) parts
        ∙ spots-append at (1 + (count - (at + 1))) size before (one ++ behind) before-long
        ∙ ap (λ rest. spots_in at size before ++ rest) (spots-append 1 (count - (at + 1)) size one behind (omega (arith, e)))

    -- Another record at a place.
    pub spots-place : (new : List ℕ) → length new ≡ size + 1 → spots_in count size (before ++ (new ++ behind)) ≡ set (spots_in count size words) at (first_spot size new)
    spots-place new e =
        let within = place-within at count (size + 1) inside in
        let left = length-drop (at * (size + 1)) words in
        let old = take (size + 1) (drop (at * (size + 1)) words) in
        let old_long : length old ≡ size + 1 = length-take-le (size + 1) (drop (at * (size + 1)) words) (omega arith) in
        let whole : before ++ (old ++ behind) ≡ words = ap (λ rest. before ++ rest) (take-append-drop (size + 1) (drop (at * (size + 1)) words)) ∙ take-append-drop (at * (size + 1)) words in
        spots-around new e
        ∙ sym (set_at (spots_in at size before) (first_spot size old) (spots_in (count - (at + 1)) size behind) (first_spot size new) at (length-spots at size before))
        ∙ ap (λ spots. set spots at (first_spot size new)) (sym (spots-around old old_long) ∙ ap (spots_in count size) whole)

    -- Another value at a place.
    pub spots-value : (value : ℕ) → spots_in count size (set words (at * (size + 1)) value) ≡ set (spots_in count size words) at (held value (take size (drop (at * (size + 1) + 1) words)))
    spots-value value =
        let start = at * (size + 1) in
        let within = place-within at count (size + 1) inside in
        let left = length-drop (start + 1) words in
        let text = take size (drop (start + 1) words) in
        let text_long : length text ≡ size = length-take-le size (drop (start + 1) words) (omega arith) in
        let one : suc start ≡ start + 1 = omega arith in
        let past : drop size (drop (start + 1) words) ≡ behind = drop-drop size (start + 1) words ∙ ap (λ n. drop n words) (omega arith) ∙ sym (drop-drop (size + 1) start words) in
        let tail : drop (suc start) words ≡ text ++ behind = ap (λ n. drop n words) one ∙ sym (take-append-drop size (drop (start + 1) words)) ∙ ap (λ rest. text ++ rest) past in
        ap (spots_in count size) (set_split words start value (omega arith) ∙ ap (λ rest. before ++ value ∷ rest) tail)
        ∙ spots-place (value ∷ text) (omega (arith, text_long))
        ∙ ap (λ t. set (spots_in count size words) at (held value t)) (take_all size text (omega (arith, text_long)))
