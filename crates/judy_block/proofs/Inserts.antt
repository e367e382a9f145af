-- Words that moved up, all or a part of them; words that moved up by two, and those before them that moved up by one, with two words put where they stood.
use Rattle.std.proofs.Common.{◌≡◌, ℕ, zero, suc, ◌+◌, ◌-◌, ◌<◌, ◌≤◌, ◌∙◌, List, [], ◌∷◌, ◌++◌, length, take, drop, set, refl, sym, ap, arith}
use Rattle.std.proofs.lemmas.List.{take-take, take-append-le, take-append-drop, take-set, drop-set, drop-drop, length-take, length-take-le, length-drop, length-append, drop-take}
use Rattle.std.proofs.lemmas.List.{drop_all, append-nil, append_assoc}
use Rattle.std.specs.List.{copy_within, insert}
use lib.Seq.{drop_at}
use borrow.Rule.Slice.PartMut.{put_mid}

-- Words of a part moved up in it are those of the whole moved up.
part_moved : (ws : List ℕ) (a m n k : ℕ) → n + k ≡ m → put_mid a m ws (copy_within (take m (drop a ws)) 0 n k) ≡ copy_within ws a (a + n) (a + k)
part_moved ws a m n k all =
    let part = drop a ws in
    let cut = take m part in
    let many : n - 0 ≡ n = omega arith in
    let none : drop (k + n) cut ≡ [] = drop_all (k + n) cut (omega (arith, length-take m part)) in
    let few : a + n - a ≡ n = omega arith in
    let end : a + k + n ≡ a + m = omega arith in
    let front : take a ws ++ take k part ≡ take (a + k) ws =
    (λ t. sym (take-take a (a + k) ws (omega arith)) t ++ sym (drop-take a k ws) t) ∙ take-append-drop a (take (a + k) ws) in
    let whole : copy_within cut 0 n k ≡ take k part ++ take n part =
    ap (λ c. take k cut ++ take c cut ++ drop (k + c) cut) many ∙ ap (λ l. take k cut ++ take n cut ++ l) none ∙ append-nil (take k cut ++ take n cut)
    ∙ (λ t. take-take k m part (omega arith) t ++ take-take n m part (omega arith) t) in
    ap (λ l. take a ws ++ (l ++ drop m part)) whole
    ∙ ap (λ l. take a ws ++ l) (append_assoc (take k part) (take n part) (drop m part))
    ∙ sym (append_assoc (take a ws) (take k part) (take n part ++ drop m part))
    ∙ ap (λ l. l ++ (take n part ++ drop m part)) front
    ∙ sym (append_assoc (take (a + k) ws) (take n part) (drop m part))
    ∙ ap (λ l. take (a + k) ws ++ take n part ++ l) (drop-drop m a ws ∙ ap (λ e. drop e ws) (sym end))
    ∙ ap (λ c. take (a + k) ws ++ take c part ++ drop (a + k + c) ws) (sym few)

-- The same for all words from a place on.
tail_moved : (ws : List ℕ) (a k : ℕ) (one : List ℕ) → a + k ≤ length ws → one ≡ copy_within (take (length ws - a) (drop a ws)) 0 (length (take (length ws - a) (drop a ws)) - k) k
    → put_mid a (length ws - a) ws one ≡ copy_within ws a (length ws - k) (a + k)
tail_moved ws a k one inside is =
    let behind = length-drop a ws in
    let long = length-take-le (length ws - a) (drop a ws) (omega arith) in
    let some : length (take (length ws - a) (drop a ws)) - k ≡ length ws - a - k = omega arith in
    let at : a + (length ws - a - k) ≡ length ws - k = omega arith in
    ap (put_mid a (length ws - a) ws) (is ∙ ap (λ n. copy_within (take (length ws - a) (drop a ws)) 0 n k) some)
    ∙ part_moved ws a (length ws - a) (length ws - a - k) k (omega arith)
    ∙ ap (λ n. copy_within ws a n (a + k)) at

-- A list with another word at a place is the words before it, that word, and those behind it.
set_is : (ws : List ℕ) (i word : ℕ) → i < length ws → set ws i word ≡ take i ws ++ (word ∷ drop (i + 1) ws)
set_is ws i word inside = sym (take-append-drop i (set ws i word)) ∙ (λ t. take-set ws i word t ++ drop-set ws i word inside t)

-- A word put in before a place, and one at it.
both_in : (ws : List ℕ) (i k word other : ℕ) → i ≤ k → k ≤ length ws → insert (take k ws) i word ++ (other ∷ drop k ws) ≡ insert (insert ws i word) (suc k) other
both_in ws zero k word other before inside = refl
both_in ws (suc i) zero word other before inside = let never : ⊥ = omega arith in absurd never
both_in [] (suc i) (suc k) word other before inside = let never : ⊥ = omega arith in absurd never
both_in (x ∷ ws) (suc i) (suc k) word other before inside = ap (λ rest. x ∷ rest) (both_in ws i k word other (omega arith) (omega arith))

module _ (ws : List ℕ) (i j word other : ℕ) (first : i < j) (second : j < length ws) where
  -- so many words are in use, so many of them stay before the second place, and these move by two
  abbrev used : ℕ
  used = length ws - 2

  abbrev low : ℕ
  low = j - 1

  abbrev rest : List ℕ
  rest = take (used - low) (drop low ws)

  abbrev moved : List ℕ
  moved = copy_within ws low used (j + 1)

  moved_is : moved ≡ take (j + 1) ws ++ rest
  moved_is = ap (λ l. take (j + 1) ws ++ rest ++ l) (drop_all (j + 1 + (used - low)) ws (omega arith)) ∙ append-nil _

  -- the words with the second one put in, before the first one is
  abbrev half : List ℕ
  half = set moved j other

  half_is : half ≡ take j ws ++ (other ∷ rest)
  half_is =
      let long = length-take-le (j + 1) ws (omega arith) in
      let all = ap length moved_is ∙ length-append (take (j + 1) ws) rest in
      let front = take-append-le j (take (j + 1) ws) rest (omega arith) ∙ take-take j (j + 1) ws (omega arith) in
      set_is moved j other (omega arith)
      ∙ (λ t. take j (moved_is t) ++ (other ∷ drop (j + 1) (moved_is t)))
      ∙ (λ t. front t ++ (other ∷ drop_at (take (j + 1) ws) rest (j + 1) long t))

  abbrev mid : List ℕ
  mid = take (low - i) (drop i half)

  front_kept : (n : ℕ) → n ≤ j → take n half ≡ take n ws
  front_kept n within =
      let long = length-take-le j ws (omega arith) in
      ap (take n) half_is ∙ take-append-le n (take j ws) (other ∷ rest) (omega arith) ∙ take-take n j ws within

  mid_is : mid ≡ drop i (take low ws)
  mid_is =
      let all : i + (low - i) ≡ low = omega arith in
      sym (drop-take i (low - i) half) ∙ ap (λ n. drop i (take n half)) all ∙ ap (drop i) (front_kept low (omega arith))

  behind : drop (i + 1 + (low - i)) half ≡ other ∷ rest
  behind =
      let at : i + 1 + (low - i) ≡ j = omega arith in
      ap (λ n. drop n half) at ∙ ap (drop j) half_is ∙ drop_at (take j ws) (other ∷ rest) j (length-take-le j ws (omega arith))

  abbrev last : List ℕ
  last = copy_within half i low (i + 1)

  last_is : last ≡ take (i + 1) ws ++ drop i (take low ws) ++ (other ∷ rest)
  last_is = λ t. front_kept (i + 1) (omega arith) t ++ mid_is t ++ behind t

  pub two_inserted : set last i word ≡ insert (insert (take used ws) i word) j other
  two_inserted =
      let kept = take (i + 1) ws in
      let between = drop i (take low ws) in
      let long : length kept ≡ i + 1 = length-take-le (i + 1) ws (omega arith) in
      let split : last ≡ kept ++ (between ++ (other ∷ rest)) = last_is ∙ append_assoc kept between (other ∷ rest) in
      let all = ap length split ∙ length-append kept (between ++ (other ∷ rest)) in
      let more : length (between ++ (other ∷ rest)) ≡ length between + length (other ∷ rest) = length-append between (other ∷ rest) in
      let front : take i (kept ++ (between ++ (other ∷ rest))) ≡ take i (take low ws) =
      take-append-le i kept (between ++ (other ∷ rest)) (omega arith) ∙ take-take i (i + 1) ws (omega arith) ∙ sym (take-take i low ws (omega arith)) in
      let same : take low (take used ws) ≡ take low ws = take-take low used ws (omega arith) in
      let some : used ≡ low + (used - low) = omega arith in
      let tail : drop low (take used ws) ≡ rest = ap (λ n. drop low (take n ws)) some ∙ drop-take low (used - low) ws in
      let next : suc low ≡ j = omega arith in
      set_is last i word (omega arith)
      ∙ (λ t. take i (split t) ++ (word ∷ drop (i + 1) (split t)))
      ∙ (λ t. front t ++ (word ∷ drop_at kept (between ++ (other ∷ rest)) (i + 1) long t))
      ∙ sym (append_assoc (take i (take low ws)) (word ∷ between) (other ∷ rest))
      ∙ (λ t. insert (sym same t) i word ++ (other ∷ sym tail t))
      ∙ both_in (take used ws) i low word other (omega arith) (omega (arith, length-take-le used ws (omega arith)))
      ∙ ap (λ n. insert (insert (take used ws) i word) n other) next

  -- the same where each of the two moves is one of a part
  pub parts_moved : (one two : List ℕ) → one ≡ copy_within (take (length ws - low) (drop low ws)) 0 (length (take (length ws - low) (drop low ws)) - 2) 2
      → two ≡ copy_within (take (j - i) (drop i (set (put_mid low (length ws - low) ws one) j other))) 0 (length (take (j - i) (drop i (set (put_mid low (length ws - low) ws one) j other))) - 1) 1
      → set (put_mid i (j - i) (set (put_mid low (length ws - low) ws one) j other) two) i word ≡ insert (insert (take used ws) i word) j other
  parts_moved one two first_is second_is =
      let to : low + 2 ≡ j + 1 = omega arith in
      let one_is : put_mid low (length ws - low) ws one ≡ moved = tail_moved ws low 2 one (omega arith) first_is ∙ ap (copy_within ws low used) to in
      let half_so : set (put_mid low (length ws - low) ws one) j other ≡ half = ap (λ l. set l j other) one_is in
      let all = ap length half_is ∙ length-append (take j ws) (other ∷ rest) in
      let front = length-take-le j ws (omega arith) in
      let after = length-drop i half in
      let between = length-take-le (j - i) (drop i half) (omega arith) in
      let fewer : length (take (j - i) (drop i half)) - 1 ≡ low - i = omega arith in
      let till : i + (low - i) ≡ low = omega arith in
      let two_is : two ≡ copy_within (take (j - i) (drop i half)) 0 (low - i) 1 =
      second_is ∙ ap (λ l. copy_within (take (j - i) (drop i l)) 0 (length (take (j - i) (drop i l)) - 1) 1) half_so
      ∙ ap (λ n. copy_within (take (j - i) (drop i half)) 0 n 1) fewer in
      ap (λ l. set l i word)
      ((λ t. put_mid i (j - i) (half_so t) (two_is t))
      ∙ part_moved half i (j - i) (low - i) 1 (omega arith)
      ∙ ap (λ n. copy_within half i n (i + 1)) till)
      ∙ two_inserted
