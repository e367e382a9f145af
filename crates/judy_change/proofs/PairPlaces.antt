-- Pairs in three parts, one behind the other: what stands in the middle part is found and changed there alone.
use Rattle.std.proofs.Common.{◌≡◌, ℕ, zero, suc, ◌+◌, ◌-◌, ◌<◌, ◌≤◌, ◌≢◌, ◌==◌, ◌||◌, ⊎_elim, Bool, true, false, true≢false, cond, List, [], ◌∷◌, ◌++◌, length, take, drop, filter}
use Rattle.std.proofs.Common.{sym, refl, ap, ◌∙◌, subst, arith, ne_eqb, is_lt, length-append}
use Rattle.std.specs.List.{insert, AllByRecursion}
use Rattle.std.proofs.lemmas.Bool.{cases_lt, cases_eq, cases_order, eq-eqb}
use Rattle.std.proofs.lemmas.List.Edits.{length-insert, insert-append_left, insert-append_right}
use Rattle.std.proofs.lemmas.List.Elements.{filter-append}
use Rattle.std.proofs.lemmas.List.Folds.{list_any-append}
use Rattle.judy_model.specs.Keys.{word_order}
use Rattle.judy_model.proofs.lemmas.queries.Places.{filter_none}
use Rattle.judy_bits.specs.ByteSets.{has, rank}
use Rattle.judy_bits.proofs.SetLemmas.{is_below, not_below, filter_all}
use Rattle.judy_leaf.specs.KeyLists.{keys_of, with_pair, shift}
use Rattle.judy_leaf.proofs.LeafLists.{rank_within}
use Rattle.judy_node.specs.Trees.{Pairs, IsMap}
use Rattle.judy_node.proofs.Maps.{keys_of-append, length-keys_of, length-shift, shift-append}

-- ---- where a key stands among pairs

-- Among pairs that all are below a key, as many stand below it.
passed : (words low top key : ℕ) (pairs : Pairs) → IsMap words low top pairs → top ≤ key → AllByRecursion (λ k. is_lt (word_order k key) ≡ true) (keys_of pairs)
passed words low top key [] map above = tt
passed words low top key (pair ∷ pairs) map above =
    let last = map.1 in
    (is_below pair.0 key (omega arith), passed words (pair.0 + 1) top key pairs map.3 above)

rank-behind : (words low top key : ℕ) (pairs : Pairs) → IsMap words low top pairs → top ≤ key → rank (keys_of pairs) key ≡ length pairs
rank-behind words low top key pairs map above =
    ap length (filter_all (λ k. is_lt (word_order k key)) (keys_of pairs) (passed words low top key pairs map above)) ∙ length-keys_of pairs

-- Among pairs that all are above it, none.
ahead : (words low top key : ℕ) (pairs : Pairs) → IsMap words low top pairs → key ≤ low → AllByRecursion (λ k. is_lt (word_order k key) ≡ false) (keys_of pairs)
ahead words low top key [] map below = tt
ahead words low top key (pair ∷ pairs) map below =
    let first = map.0 in
    (not_below pair.0 key (omega arith), ahead words (pair.0 + 1) top key pairs map.3 (omega arith))

rank-before : (words low top key : ℕ) (pairs : Pairs) → IsMap words low top pairs → key ≤ low → rank (keys_of pairs) key ≡ 0
rank-before words low top key pairs map below = ap length (filter_none (λ k. is_lt (word_order k key)) (keys_of pairs) (ahead words low top key pairs map below))

rank-append : (key : ℕ) (one other : Pairs) → rank (keys_of (one ++ other)) key ≡ rank (keys_of one) key + rank (keys_of other) key
rank-append key one other =
    let test : ℕ → Bool = λ k. is_lt (word_order k key) in
    ap (λ keys. length (filter test keys)) (keys_of-append one other)
    ∙ ap length (filter-append test (keys_of one) (keys_of other))
    ∙ length-append (filter test (keys_of one)) (filter test (keys_of other))

has-append : (key : ℕ) (one other : Pairs) → has (keys_of (one ++ other)) key ≡ (has (keys_of one) key || has (keys_of other) key)
has-append key one other =
    ap (λ keys. has keys key) (keys_of-append one other) ∙ list_any-append (λ k. k == key) (keys_of one) (keys_of other)

-- A key out of the bounds of pairs isn't among them.
pub absent-above : (words low top key : ℕ) (pairs : Pairs) → IsMap words low top pairs → top ≤ key → has (keys_of pairs) key ≡ false
absent-above words low top key [] map above = refl
absent-above words low top key (pair ∷ pairs) map above =
    let last = map.1 in
    ap (λ b. b || has (keys_of pairs) key) (ne_eqb pair.0 key (λ e. omega arith)) ∙ absent-above words (pair.0 + 1) top key pairs map.3 above

pub absent-below : (words low top key : ℕ) (pairs : Pairs) → IsMap words low top pairs → key < low → has (keys_of pairs) key ≡ false
absent-below words low top key [] map below = refl
absent-below words low top key (pair ∷ pairs) map below =
    let first = map.0 in
    ap (λ b. b || has (keys_of pairs) key) (ne_eqb pair.0 key (λ e. omega arith)) ∙ absent-below words (pair.0 + 1) top key pairs map.3 (omega arith)

-- ---- pairs moved up

less-shift : (by key other : ℕ) → is_lt (word_order (by + other) (by + key)) ≡ is_lt (word_order other key)
less-shift by key other = ⊎_elim
    (λ (less : other < key). is_below (by + other) (by + key) (omega arith) ∙ sym (is_below other key less))
    (λ (more : key ≤ other). not_below (by + other) (by + key) (omega arith) ∙ sym (not_below other key more))
    (cases_lt other key)

same-shift : (by key other : ℕ) → (by + other == by + key) ≡ (other == key)
same-shift by key other = ⊎_elim
    (λ (same : other ≡ key). eq-eqb (by + other) (by + key) (omega arith) ∙ sym (eq-eqb other key same))
    (λ (apart : other ≢ key). ne_eqb (by + other) (by + key) (λ e. apart (omega arith)) ∙ sym (ne_eqb other key apart))
    (cases_eq other key)

count_shift : (one other : Bool) (x y : ℕ) (xs ys : List ℕ) → one ≡ other → length xs ≡ length ys → length (cond one (x ∷ xs) xs) ≡ length (cond other (y ∷ ys) ys)
count_shift one other x y xs ys same long =
    ap (λ b. length (cond b (x ∷ xs) xs)) same
    ∙ elim other as (λ b. length (cond b (x ∷ xs) xs) ≡ length (cond b (y ∷ ys) ys)) [ true ↦ ap suc long | false ↦ long ]

pub rank-shift : (by key : ℕ) (pairs : Pairs) → rank (keys_of (shift by pairs)) (by + key) ≡ rank (keys_of pairs) key
rank-shift by key [] = refl
rank-shift by key (pair ∷ pairs) =
    count_shift (is_lt (word_order (by + pair.0) (by + key))) (is_lt (word_order pair.0 key)) (by + pair.0) pair.0
    (filter (λ k. is_lt (word_order k (by + key))) (keys_of (shift by pairs))) (filter (λ k. is_lt (word_order k key)) (keys_of pairs)) (less-shift by key pair.0) (rank-shift by key pairs)

pub has-shift : (by key : ℕ) (pairs : Pairs) → has (keys_of (shift by pairs)) (by + key) ≡ has (keys_of pairs) key
has-shift by key [] = refl
has-shift by key (pair ∷ pairs) = λ t. same-shift by key pair.0 t || has-shift by key pairs t

take-shift : (by at : ℕ) (pairs : Pairs) → take at (shift by pairs) ≡ shift by (take at pairs)
take-shift by zero pairs = refl
take-shift by (suc at) [] = refl
take-shift by (suc at) (pair ∷ pairs) = ap (λ rest. (by + pair.0, pair.1) ∷ rest) (take-shift by at pairs)

drop-shift : (by at : ℕ) (pairs : Pairs) → drop at (shift by pairs) ≡ shift by (drop at pairs)
drop-shift by zero pairs = refl
drop-shift by (suc at) [] = refl
drop-shift by (suc at) (pair ∷ pairs) = drop-shift by at pairs

insert-shift : (by at key value : ℕ) (pairs : Pairs) → insert (shift by pairs) at (by + key, value) ≡ shift by (insert pairs at (key, value))
insert-shift by at key value pairs =
    (λ t. take-shift by at pairs t ++ (by + key, value) ∷ drop-shift by at pairs t) ∙ sym (shift-append by (take at pairs) ((key, value) ∷ drop at pairs))

pub with_pair-shift : (by key value : ℕ) (pairs : Pairs) → with_pair (by + key) value (shift by pairs) ≡ shift by (with_pair key value pairs)
with_pair-shift by key value pairs = ap (λ n. insert (shift by pairs) n (by + key, value)) (rank-shift by key pairs) ∙ insert-shift by (rank (keys_of pairs) key) key value pairs

-- No rank is above the number of pairs.
pub rank-most : (key : ℕ) (pairs : Pairs) → rank (keys_of pairs) key ≤ length pairs
rank-most key pairs = let most = rank_within (keys_of pairs) key in let long = length-keys_of pairs in omega arith

-- One pair more.
pub length-with_pair : (key value : ℕ) (pairs : Pairs) → length (with_pair key value pairs) ≡ length pairs + 1
length-with_pair key value pairs = length-insert pairs (rank (keys_of pairs) key) (key, value) (rank-most key pairs)

-- ---- three parts

-- Pairs below a start, pairs moved up to it whose own keys are below a unit, and pairs from the next start on.
module _ (words low high start unit : ℕ) (front rest : Pairs) (below : IsMap words low start front) (above : IsMap words (start + unit) high rest) (key : ℕ) (fits : key < unit) (middle : Pairs) where
  -- A key of the middle part is among all where it is there.
  pub has-middle : has (keys_of (front ++ (shift start middle ++ rest))) (start + key) ≡ has (keys_of middle) key
  has-middle =
      let none : (b : Bool) → (b || false) ≡ b = λ b. elim b as (λ b. (b || false) ≡ b) [ true ↦ refl | false ↦ refl ] in
      has-append (start + key) front (shift start middle ++ rest)
      ∙ (λ t. absent-above words low start (start + key) front below (omega arith) t || has-append (start + key) (shift start middle) rest t)
      ∙ (λ t. has-shift start key middle t || absent-below words (start + unit) high (start + key) rest above (omega arith) t)
      ∙ none (has (keys_of middle) key)

  -- Its rank is that of the middle part, behind the front.
  pub rank-middle : rank (keys_of (front ++ (shift start middle ++ rest))) (start + key) ≡ length front + rank (keys_of middle) key
  rank-middle =
      let all = rank-append (start + key) front (shift start middle ++ rest) in
      let later = rank-append (start + key) (shift start middle) rest in
      let here = rank-behind words low start (start + key) front below (omega arith) in
      let inside = rank-shift start key middle in
      let beyond = rank-before words (start + unit) high (start + key) rest above (omega arith) in
      omega arith

  -- A pair more goes into the middle part.
  pub with_pair-middle : (value : ℕ) → with_pair (start + key) value (front ++ (shift start middle ++ rest)) ≡ front ++ (shift start (with_pair key value middle) ++ rest)
  with_pair-middle value =
      let at = rank (keys_of middle) key in
      let most = rank-most key middle in
      let long = length-shift start middle in
      let moved : length front + at - length front ≡ at = omega arith in
      ap (λ n. insert (front ++ (shift start middle ++ rest)) n (start + key, value)) rank-middle
      ∙ insert-append_right front (shift start middle ++ rest) (length front) (length front + at) (start + key, value) refl (omega arith)
      ∙ ap (λ n. front ++ insert (shift start middle ++ rest) n (start + key, value)) moved
      ∙ ap (λ ps. front ++ ps) (insert-append_left (shift start middle) rest at (start + key, value) (omega arith))
      ∙ ap (λ ps. front ++ (ps ++ rest)) (insert-shift start at key value middle)

rank-later : (key : ℕ) (pair : ℕ × ℕ) (pairs : Pairs) → pair.0 < key → rank (keys_of (pair ∷ pairs)) key ≡ suc (rank (keys_of pairs) key)
rank-later key pair pairs less =
    let test : ℕ → Bool = λ k. is_lt (word_order k key) in
    ap (λ b. length (cond b (pair.0 ∷ filter test (keys_of pairs)) (filter test (keys_of pairs)))) (is_below pair.0 key less)

pub map-with_pair : (words low top key value : ℕ) (pairs : Pairs) → IsMap words low top pairs → low ≤ key → key < top → has (keys_of pairs) key ≡ false → (words ≡ 0 → value ≡ 0)
    → IsMap words low top (with_pair key value pairs)
map-with_pair words low top key value [] map from below absent free = (from, below, free, tt)
map-with_pair words low top key value (pair ∷ pairs) map from below absent free = ⊎_elim
    (λ (same : pair.0 ≡ key). absurd (true≢false (sym (ap (λ b. b || has (keys_of pairs) key) (eq-eqb pair.0 key same)) ∙ absent)))
    (λ apart. ⊎_elim
    (λ (less : pair.0 < key).
    let later : has (keys_of pairs) key ≡ false = ap (λ b. b || has (keys_of pairs) key) (sym (ne_eqb pair.0 key (λ e. omega arith))) ∙ absent in
    subst (λ n. IsMap words low top (insert (pair ∷ pairs) n (key, value))) (sym (rank-later key pair pairs less))
    (map.0, map.1, map.2, map-with_pair words (pair.0 + 1) top key value pairs map.3 (omega arith) below later free))
    (λ (more : key < pair.0).
    subst (λ n. IsMap words low top (insert (pair ∷ pairs) n (key, value))) (sym (rank-before words (key + 1) top key (pair ∷ pairs) (omega arith, map.1, map.2, map.3) (omega arith)))
    (from, below, free, (omega arith, map.1, map.2, map.3)))
    apart)
    (cases_order pair.0 key)
