-- Pairs in ascending order: what stands before and behind a word, and what a put or a removal there leaves.
use Rattle.std.proofs.Common.{◌≡◌, ℕ, zero, suc, ◌<◌, ◌≤◌, Bool, true, false, cond, not, ◌&&◌, ◌⊎◌, inl, inr, T, [], ◌∷◌, ◌++◌, length, take, drop, get_or, set, insert, remove}
use Rattle.std.proofs.Common.{nat_lt, Option, Some, None, Less, Equal, Greater, refl, sym, ap, ◌∙◌, subst, arith, ◌+◌, ◌-◌, zero-add, sub-one, add-one, unwrap_or, IsSome}
use Rattle.std.proofs.Common.{true≢false}
use Rattle.std.specs.Ordering.{nat_cmp, is_lt, is_eq, eq_by_cmp}
use Rattle.std.specs.Cmp.{nat_cmp_is, ranked}
use Rattle.std.specs.FinMap.{find, put}
use Rattle.std.specs.FinMap.Entries.{below_all, by_order}
use Rattle.std.proofs.lemmas.List.{take-append-drop, set_split, drop_more, take_more, drop_all, length-drop}
use Rattle.std.proofs.lemmas.Bool.{lt-ltb, le-ltb, cases_lt}
use Rattle.std.proofs.lemmas.List.Sums.{sum_by-take-drop, sum_by-cons}
use Rattle.std.proofs.lemmas.Option.{none-some, same_Some}
use Rattle.judy_model.specs.Keys.{word_order}
use Rattle.judy_model.proofs.lemmas.maps.Pairs.{first_below, rest_sorted}
use Rattle.judy_model.proofs.lemmas.orders.WordOrder.{lt_from_word, less_word}
use Rattle.judy_sums.specs.Pairs.{Pairs, sum_of, part_below, sum_below, number_in, without}
use Rattle.judy_sums.specs.Chunks.{AllBelow, AllFrom, Ascends, IsPlace}

-- ---- words before and behind one

parts_true : (a b : Bool) → T (a && b) → (a ≡ true) × T b
parts_true true b h = (refl, h)
parts_true false b h = absurd h

all_above : (word : ℕ) (pairs : Pairs) → T (below_all word_order word pairs) → AllFrom pairs (suc word)
all_above word [] h = tt
all_above word (pair ∷ rest) h =
    let parts = parts_true (is_lt (nat_cmp word pair.0)) (below_all word_order word rest) h in
    let less = lt_from_word word pair.0 parts.0 in
    (omega arith, all_above word rest parts.1)

-- Behind the first pair all words are greater.
pub head_from : (pair : ℕ × ℕ) (rest : Pairs) → Ascends (pair ∷ rest) → AllFrom rest (suc pair.0)
head_from pair rest ascend = all_above pair.0 rest (first_below word_order pair rest ascend)

pub tail_ascends : (front back : Pairs) → Ascends (front ++ back) → Ascends back
tail_ascends [] back ascend = ascend
tail_ascends (pair ∷ rest) back ascend = tail_ascends rest back (rest_sorted word_order pair (rest ++ back) ascend)

pub below_more : (pairs : Pairs) (low high : ℕ) → low ≤ high → AllBelow pairs low → AllBelow pairs high
below_more [] low high most all = tt
below_more (pair ∷ rest) low high most all =
    let less = all.0 in
    (omega arith, below_more rest low high most all.1)

pub from_less : (pairs : Pairs) (low high : ℕ) → low ≤ high → AllFrom pairs high → AllFrom pairs low
from_less [] low high most all = tt
from_less (pair ∷ rest) low high most all =
    let from = all.0 in
    (omega arith, from_less rest low high most all.1)

from_at : (front : Pairs) (pair : ℕ × ℕ) (back : Pairs) (word : ℕ) → AllFrom (front ++ pair ∷ back) word → word ≤ pair.0
from_at [] pair back word all = all.0
from_at (first ∷ rest) pair back word all = from_at rest pair back word all.1

-- Before a pair all words are less.
pub before_pair : (front : Pairs) (pair : ℕ × ℕ) (back : Pairs) → Ascends (front ++ pair ∷ back) → AllBelow front pair.0
before_pair [] pair back ascend = tt
before_pair (first ∷ rest) pair back ascend =
    let above = from_at rest pair back (suc first.0) (head_from first (rest ++ pair ∷ back) ascend) in
    (omega arith, before_pair rest pair back (rest_sorted word_order first (rest ++ pair ∷ back) ascend))

pub from_first : (pair : ℕ × ℕ) (rest : Pairs) (word : ℕ) → Ascends (pair ∷ rest) → word ≤ pair.0 → AllFrom (pair ∷ rest) word
from_first pair rest word ascend least = (least, from_less rest word (suc pair.0) (omega arith) (head_from pair rest ascend))

-- ---- the order of two words

greater_word : (word other : ℕ) → other < word → word_order word other ≡ Greater
greater_word word other less = sym (nat_cmp_is word other Greater less)

same_word : (word other : ℕ) → word ≡ other → word_order word other ≡ Equal
same_word word other same = sym (nat_cmp_is word other Equal same)

-- ---- what is found, put in and taken out there

pub find_front : (front back : Pairs) (word : ℕ) → AllBelow front word → find word_order word (front ++ back) ≡ find word_order word back
find_front [] back word all = refl
find_front (pair ∷ rest) back word all =
    ap (λ r. cond (is_eq r) (Some pair.1) (find word_order word (rest ++ back))) (greater_word word pair.0 all.0) ∙ find_front rest back word all.1

pub find_none : (pairs : Pairs) (word : ℕ) → AllFrom pairs (suc word) → find word_order word pairs ≡ None
find_none [] word all = refl
find_none (pair ∷ rest) word all =
    let above : word < pair.0 = let from = all.0 in omega arith in
    ap (λ r. cond (is_eq r) (Some pair.1) (find word_order word rest)) (less_word word pair.0 above) ∙ find_none rest word all.1

pub find_behind : (pairs back : Pairs) (word : ℕ) → AllFrom back (suc word) → find word_order word (pairs ++ back) ≡ find word_order word pairs
find_behind [] back word all = find_none back word all
find_behind (pair ∷ rest) back word all = ap (λ found. cond (eq_by_cmp word_order word pair.0) (Some pair.1) found) (find_behind rest back word all)

pub put_front : (front back : Pairs) (word number : ℕ) → AllBelow front word → put word_order word number (front ++ back) ≡ front ++ put word_order word number back
put_front [] back word number all = refl
put_front (pair ∷ rest) back word number all =
    ap (λ r. by_order r ((word, number) ∷ pair ∷ (rest ++ back)) ((pair.0, number) ∷ (rest ++ back)) (pair ∷ put word_order word number (rest ++ back))) (greater_word word pair.0 all.0)
    ∙ ap (λ pairs. pair ∷ pairs) (put_front rest back word number all.1)

pub put_first : (pairs : Pairs) (word number : ℕ) → AllFrom pairs (suc word) → put word_order word number pairs ≡ (word, number) ∷ pairs
put_first [] word number all = refl
put_first (pair ∷ rest) word number all =
    let above : word < pair.0 = let from = all.0 in omega arith in
    ap (λ r. by_order r ((word, number) ∷ pair ∷ rest) ((pair.0, number) ∷ rest) (pair ∷ put word_order word number rest)) (less_word word pair.0 above)

pub put_behind : (pairs back : Pairs) (word number : ℕ) → AllFrom back (suc word) → put word_order word number (pairs ++ back) ≡ put word_order word number pairs ++ back
put_behind [] back word number all = put_first back word number all
put_behind (pair ∷ rest) back word number all =
    elim (word_order word pair.0) as (λ r. by_order r ((word, number) ∷ pair ∷ (rest ++ back)) ((pair.0, number) ∷ (rest ++ back)) (pair ∷ put word_order word number (rest ++ back))
    ≡ by_order r ((word, number) ∷ pair ∷ rest) ((pair.0, number) ∷ rest) (pair ∷ put word_order word number rest) ++ back) [
      | Less ↦ refl
      | Equal ↦ refl
      | Greater ↦ ap (λ pairs. pair ∷ pairs) (put_behind rest back word number all)
    ]

pub without_front : (front back : Pairs) (word : ℕ) → AllBelow front word → without word (front ++ back) ≡ front ++ without word back
without_front [] back word all = refl
without_front (pair ∷ rest) back word all =
    ap (λ r. cond (not (is_eq r)) (pair ∷ without word (rest ++ back)) (without word (rest ++ back))) (greater_word word pair.0 all.0)
    ∙ ap (λ pairs. pair ∷ pairs) (without_front rest back word all.1)

pub without_none : (pairs : Pairs) (word : ℕ) → AllFrom pairs (suc word) → without word pairs ≡ pairs
without_none [] word all = refl
without_none (pair ∷ rest) word all =
    let above : word < pair.0 = let from = all.0 in omega arith in
    ap (λ r. cond (not (is_eq r)) (pair ∷ without word rest) (without word rest)) (less_word word pair.0 above) ∙ ap (λ pairs. pair ∷ pairs) (without_none rest word all.1)

pub without_behind : (pairs back : Pairs) (word : ℕ) → AllFrom back (suc word) → without word (pairs ++ back) ≡ without word pairs ++ back
without_behind [] back word all = without_none back word all
without_behind (pair ∷ rest) back word all =
    elim (word_order word pair.0) as (λ r. cond (not (is_eq r)) (pair ∷ without word (rest ++ back)) (without word (rest ++ back)) ≡
    cond (not (is_eq r)) (pair ∷ without word rest) (without word rest) ++ back) [
      | Less ↦ ap (λ pairs. pair ∷ pairs) (without_behind rest back word all)
      | Equal ↦ without_behind rest back word all
      | Greater ↦ ap (λ pairs. pair ∷ pairs) (without_behind rest back word all)
    ]

-- ---- the first of some pairs from a word on

-- A word that is found there is the first.
pub found_first : (pairs : Pairs) (word number : ℕ) → AllFrom pairs word → Ascends pairs → find word_order word pairs ≡ Some number → (rest : Pairs) × (pairs ≡ (word, number) ∷ rest)
found_first [] word number all ascend is = absurd (none-some number is)
found_first (pair ∷ rest) word number all ascend is =
    let least = all.0 in
    elim (word_order word pair.0) as (λ r. word_order word pair.0 ≡ r → (others : Pairs) × (pair ∷ rest ≡ (word, number) ∷ others)) [
      | Less ↦ λ less.
          let above : suc word ≤ pair.0 = let before = ranked word pair.0 Less (sym less) in omega arith in
          absurd (none-some number (sym (find_none (pair ∷ rest) word (from_first pair rest (suc word) ascend above)) ∙ is))
      | Equal ↦ λ same. (
        rest,
        ap (λ w. (w, pair.1) ∷ rest) (sym (ranked word pair.0 Equal (sym same)))
            ∙ ap (λ n. (word, n) ∷ rest) (same_Some pair.1 number (sym (ap (λ r. cond (is_eq r) (Some pair.1) (find word_order word rest)) same) ∙ is)),
      )
      | Greater ↦ λ greater. let before = ranked word pair.0 Greater (sym greater) in absurd (omega arith)
    ] refl

-- Where it isn't found, all are greater.
pub none_from : (pairs : Pairs) (word : ℕ) → AllFrom pairs word → Ascends pairs → find word_order word pairs ≡ None → AllFrom pairs (suc word)
none_from [] word all ascend absent = tt
none_from (pair ∷ rest) word all ascend absent =
    let least = all.0 in
    elim (word_order word pair.0) as (λ r. word_order word pair.0 ≡ r → AllFrom (pair ∷ rest) (suc word)) [
      | Less ↦ λ less. let above : suc word ≤ pair.0 = let before = ranked word pair.0 Less (sym less) in omega arith in from_first pair rest (suc word) ascend above
      | Equal ↦ λ same. absurd (none-some pair.1 (sym absent ∙ ap (λ r. cond (is_eq r) (Some pair.1) (find word_order word rest)) same))
      | Greater ↦ λ greater. let before = ranked word pair.0 Greater (sym greater) in absurd (omega arith)
    ] refl

-- ---- at the place of a word

drop_from : (at : ℕ) (pairs : Pairs) → drop 1 (drop at pairs) ≡ drop (suc at) pairs
drop_from zero pairs = refl
drop_from (suc at) [] = refl
drop_from (suc at) (pair ∷ rest) = drop_from at rest

below_push : (front : Pairs) (pair : ℕ × ℕ) (word : ℕ) → AllBelow front word → pair.0 < word → AllBelow (front ++ pair ∷ []) word
below_push [] pair word all less = (less, tt)
below_push (first ∷ rest) pair word all less = (all.0, below_push rest pair word all.1 less)

before_ends : (pairs : Pairs) (word at : ℕ) → Ascends pairs → at ≤ length pairs → (0 < at → (get_or pairs (at - 1) (0, 0)).0 < word) → AllBelow (take at pairs) word
before_ends pairs word zero ascend within before = tt
before_ends pairs word (suc at) ascend within before =
    let inside : at < length pairs = omega arith in
    let last = get_or pairs at (0, 0) in
    let less : last.0 < word = rw (sub-one) at (before (omega arith)) in
    let split : take at pairs ++ last ∷ drop (at + 1) pairs ≡ pairs = ap (λ back. take at pairs ++ back) (sym (drop_more pairs at (0, 0) inside)) ∙ take-append-drop at pairs in
    let all = before_pair (take at pairs) last (drop (at + 1) pairs) (subst Ascends (sym split) ascend) in
    let more = below_push (take at pairs) last word (below_more (take at pairs) last.0 word (omega arith) all) less in
    subst (λ front. AllBelow front word) (sym (take_more pairs at (0, 0) inside) ∙ ap (λ n. take n pairs) (add-one at)) more

behind_ends : (pairs : Pairs) (word at : ℕ) → Ascends pairs → (at < length pairs → word ≤ (get_or pairs at (0, 0)).0) → (at < length pairs) ⊎ (length pairs ≤ at) → AllFrom (drop at pairs) word
behind_ends pairs word at ascend behind (inl inside) =
    let whole = take-append-drop at pairs in
    let first = drop_more pairs at (0, 0) inside in
    subst (λ back. AllFrom back word) (sym first) (from_first (get_or pairs at (0, 0)) (drop (at + 1) pairs) word
    (subst Ascends first (tail_ascends (take at pairs) (drop at pairs) (subst Ascends (sym whole) ascend))) (behind inside))
behind_ends pairs word at ascend behind (inr past) = subst (λ back. AllFrom back word) (sym (drop_all at pairs past)) tt

-- A place at whose ends the words are as they should is the place of the word.
pub place_from_ends : (pairs : Pairs) (word at : ℕ) → Ascends pairs → at ≤ length pairs → (0 < at → (get_or pairs (at - 1) (0, 0)).0 < word) →
    (at < length pairs → word ≤ (get_or pairs at (0, 0)).0) → IsPlace pairs word at
place_from_ends pairs word at ascend within before behind = record {
  within = within;
  before = before_ends pairs word at ascend within before;
  behind = behind_ends pairs word at ascend behind (cases_lt at (length pairs));
}

module _ (pairs : Pairs) (word at : ℕ) (ascend : Ascends pairs) (place : IsPlace pairs word at) where
  parted : take at pairs ++ drop at pairs ≡ pairs
  parted = take-append-drop at pairs

  behind_ascend : Ascends (drop at pairs)
  behind_ascend = tail_ascends (take at pairs) (drop at pairs) (subst Ascends (sym parted) ascend)

  found_behind : find word_order word pairs ≡ find word_order word (drop at pairs)
  found_behind = ap (find word_order word) (sym parted) ∙ find_front (take at pairs) (drop at pairs) word place.before

  -- What stands there tells what is found.
  pub found_at : (pair : ℕ × ℕ) → at < length pairs → pair ≡ get_or pairs at pair → pair.0 ≡ word → find word_order word pairs ≡ Some pair.1
  found_at pair within is same =
      found_behind
      ∙ ap (find word_order word) (drop_more pairs at pair within ∙ ap (λ first. first ∷ drop (at + 1) pairs) (sym is))
      ∙ ap (λ r. cond (is_eq r) (Some pair.1) (find word_order word (drop (at + 1) pairs))) (same_word word pair.0 (sym same))

  -- A word that is found stands there.
  pub stands_there : (number : ℕ) → find word_order word pairs ≡ Some number → (rest : Pairs) × (drop at pairs ≡ (word, number) ∷ rest)
  stands_there number is = found_first (drop at pairs) word number place.behind behind_ascend (sym found_behind ∙ is)

  -- A word that isn't found is put in there.
  pub put_new : (number : ℕ) → find word_order word pairs ≡ None → put word_order word number pairs ≡ insert pairs at (word, number)
  put_new number absent =
      ap (put word_order word number) (sym parted)
      ∙ put_front (take at pairs) (drop at pairs) word number place.before
      ∙ ap (λ back. take at pairs ++ back) (put_first (drop at pairs) word number (none_from (drop at pairs) word place.behind behind_ascend (sym found_behind ∙ absent)))

  module _ (number : ℕ) (rest : Pairs) (there : drop at pairs ≡ (word, number) ∷ rest) where
    rest_is : drop (suc at) pairs ≡ rest
    rest_is = sym (drop_from at pairs) ∙ ap (drop 1) there

    behind_all : AllFrom rest (suc word)
    behind_all = head_from (word, number) rest (subst Ascends there behind_ascend)

    -- A word that stands there is written over.
    pub put_there : (other : ℕ) → at < length pairs → put word_order word other pairs ≡ set pairs at (word, other)
    put_there other within =
        ap (put word_order word other) (sym parted)
        ∙ put_front (take at pairs) (drop at pairs) word other place.before
        ∙ ap (λ back. take at pairs ++ put word_order word other back) there
        ∙ ap (λ r. take at pairs ++ by_order r ((word, other) ∷ (word, number) ∷ rest) ((word, other) ∷ rest) ((word, number) ∷ put word_order word other rest)) (same_word word word refl)
        ∙ ap (λ back. take at pairs ++ (word, other) ∷ back) (sym rest_is)
        ∙ sym (set_split pairs at (word, other) within)

    -- And taken out there.
    pub without_there : without word pairs ≡ remove pairs at
    without_there =
        ap (without word) (sym parted)
        ∙ without_front (take at pairs) (drop at pairs) word place.before
        ∙ ap (λ back. take at pairs ++ without word back) there
        ∙ ap (λ r. take at pairs ++ cond (not (is_eq r)) ((word, number) ∷ without word rest) (without word rest)) (same_word word word refl)
        ∙ ap (λ back. take at pairs ++ back) (without_none rest word behind_all)
        ∙ ap (λ back. take at pairs ++ back) (sym rest_is)

-- ---- sums below a word

pub sum_front : (pairs : Pairs) (word : ℕ) → AllBelow pairs word → sum_below pairs word ≡ sum_of pairs
sum_front [] word all = refl
sum_front (pair ∷ rest) word all =
    sum_by-cons (part_below word) pair rest
    ∙ ap (λ b. cond b pair.1 0 + sum_below rest word) (lt-ltb pair.0 word all.0)
    ∙ ap (λ n. pair.1 + n) (sum_front rest word all.1)
    ∙ sym (sum_by-cons (λ (one : ℕ × ℕ). one.1) pair rest)

pub sum_behind : (pairs : Pairs) (word : ℕ) → AllFrom pairs word → sum_below pairs word ≡ 0
sum_behind [] word all = refl
sum_behind (pair ∷ rest) word all =
    sum_by-cons (part_below word) pair rest
    ∙ ap (λ b. cond b pair.1 0 + sum_below rest word) (le-ltb pair.0 word all.0)
    ∙ zero-add (sum_below rest word)
    ∙ sum_behind rest word all.1

-- ---- a word that is there

head_of : (one other : ℕ × ℕ) (rest more : Pairs) → one ∷ rest ≡ other ∷ more → one ≡ other
head_of one other rest more e = cc

pub some_of : {X : Type 0} (found : Option X) → IsSome found → (value : X) × (found ≡ Some value)
some_of None is = absurd (true≢false (sym is))
some_of (Some value) is = (value, refl)

module _ (pairs : Pairs) (word at : ℕ) (ascend : Ascends pairs) (place : IsPlace pairs word at) (is : IsSome (find word_order word pairs)) where
  its_number : ℕ
  its_number = (some_of (find word_order word pairs) is).0

  is_number : number_in pairs word ≡ its_number
  unfolding its_number
  is_number = ap (λ found. unwrap_or found 0) (some_of (find word_order word pairs) is).1

  there : (rest : Pairs) × (drop at pairs ≡ (word, its_number) ∷ rest)
  unfolding its_number
  there = stands_there pairs word at ascend place its_number (some_of (find word_order word pairs) is).1

  pub there_within : at < length pairs
  there_within =
      let whole = ap length (take-append-drop at pairs) in
      let least : 1 ≤ length (drop at pairs) = rw there.1 (omega arith) in
      let long = length-drop at pairs in
      omega arith

  pub there_is : get_or pairs at (0, 0) ≡ (word, number_in pairs word)
  there_is =
      head_of (get_or pairs at (0, 0)) (word, its_number) (drop (at + 1) pairs) there.0 (sym (drop_more pairs at (0, 0) there_within) ∙ there.1)
      ∙ ap (λ n. (word, n)) (sym is_number)

  pub there_put : (other : ℕ) → put word_order word other pairs ≡ set pairs at (word, other)
  there_put other = put_there pairs word at ascend place its_number there.0 there.1 other there_within

  pub there_without : without word pairs ≡ remove pairs at
  there_without = without_there pairs word at ascend place its_number there.0 there.1

-- What is below a word is what stands before its place.
pub sum_placed : (pairs : Pairs) (word at : ℕ) → IsPlace pairs word at → sum_of (take at pairs) ≡ sum_below pairs word
sum_placed pairs word at place =
    let parts = sum_by-take-drop (part_below word) pairs at in
    let before = sum_front (take at pairs) word place.before in
    let behind = sum_behind (drop at pairs) word place.behind in
    omega arith

-- What is below a word is a part of a pair's number.
pub part_within : (word : ℕ) (pair : ℕ × ℕ) → part_below word pair ≤ pair.1
part_within word pair = elim (nat_lt pair.0 word) as (λ b. cond b pair.1 0 ≤ pair.1) [ true ↦ omega arith | false ↦ omega arith ]
