-- The numbers of a range that pass a test, as an ascending list.
use Rattle.std.proofs.Common.{◌≡◌, ◌≢◌, ℕ, zero, suc, ◌+◌, ◌-◌, ◌<◌, ◌≤◌, ◌==◌, ◌&&◌, ◌||◌, Bool, true, false, cond, not, List, [], ◌∷◌, ◌++◌, length, filter, find, slice_get}
use Rattle.std.proofs.Common.{Option, Some, None, sym, refl, ap, ◌∙◌, arith, ne_eqb, ⊎_elim, Less, is_lt, is_le, is_gt, is_ge, nat_lt, nat_le, leb-true, le-leb, ltb-true, lt-ltb}
use Rattle.std.specs.List.{list_any, range_with_len, AllByRecursion}
use Rattle.std.specs.List.Sorted.{IsStrictlySortedBy}
use Rattle.std.specs.Option.{option_or}
use Rattle.std.proofs.lemmas.Bool.{false_from_ne_true, cases_order, cases_lt, eqb-true, eq-eqb}
use Rattle.std.proofs.lemmas.Map.Views.{any-filter_same}
use Rattle.std.proofs.lemmas.List.{append-nil}
use Rattle.std.proofs.lemmas.List.Elements.{filter-append, All-filter}
use Rattle.std.proofs.lemmas.List.FromFn.{length-range_with_len, get_or-range_with_len}
use Rattle.judy_model.specs.Keys.{word_order}
use Rattle.judy_model.proofs.lemmas.orders.WordOrder.{less_word, lt_word, is_lt_word, is_gt_word, is_ge_word, is_le_word}
use Rattle.judy_model.proofs.lemmas.maps.Ascending.{find_last, find-reverse, ascending-filter}
use Rattle.judy_bits.specs.ByteSets.{IsByteSet, has, rank, nth, next_from, prev_from, with_byte, without_byte}

-- ---- a range in two parts

-- The numbers of a range in which a test holds.
abbrev pub chosen : (ℕ → Bool) → ℕ → ℕ → List ℕ
chosen p from count = filter p (range_with_len from count)

pub range_split : (from first second : ℕ) → range_with_len from (first + second) ≡ range_with_len from first ++ range_with_len (from + first) second
range_split from zero second = (λ t. range_with_len (let e : from ≡ from + 0 = omega arith in e t) (let e : 0 + second ≡ second = omega arith in e t))
range_split from (suc first) second =
    let one : suc first + second ≡ suc (first + second) = omega arith in
    let on : from + 1 + first ≡ from + suc first = omega arith in
    ap (range_with_len from) one ∙ ap (λ xs. from ∷ xs) (range_split (from + 1) first second ∙ ap (λ at. range_with_len (from + 1) first ++ range_with_len at second) on)

-- Two tests that agree in a range choose the same.
pub chosen_agree : (p q : ℕ → Bool) (from count : ℕ) → ((at : ℕ) → from ≤ at → at < from + count → p at ≡ q at) → chosen p from count ≡ chosen q from count
chosen_agree p q from zero agree = refl
chosen_agree p q from (suc count) agree =
    let rest = chosen_agree p q (from + 1) count (λ at low high. agree at (omega arith) (omega arith)) in
    let here = agree from (omega arith) (omega arith) in
    λ t. cond (here t) (from ∷ rest t) (rest t)

-- Where no number passes, none is chosen.
pub chosen_none : (p : ℕ → Bool) (from count : ℕ) → ((at : ℕ) → from ≤ at → at < from + count → p at ≡ false) → chosen p from count ≡ []
chosen_none p from zero none = refl
chosen_none p from (suc count) none =
    ap (λ b. cond b (from ∷ chosen p (from + 1) count) (chosen p (from + 1) count)) (none from (omega arith) (omega arith))
    ∙ chosen_none p (from + 1) count (λ at low high. none at (omega arith) (omega arith))

-- A filter of a filter tests both.
pub filter-filter : (p q : ℕ → Bool) (xs : List ℕ) → filter q (filter p xs) ≡ filter (λ x. p x && q x) xs
filter-filter p q [] = refl
filter-filter p q (x ∷ xs) = elim (p x) as (λ b. filter q (cond b (x ∷ filter p xs) (filter p xs)) ≡ cond (b && q x) (x ∷ filter (λ y. p y && q y) xs) (filter (λ y. p y && q y) xs)) [
  | true ↦ ap (λ rest. cond (q x) (x ∷ rest) rest) (filter-filter p q xs)
  | false ↦ filter-filter p q xs
]

-- What is chosen from a range is what is chosen from its two parts.
pub chosen_split : (p : ℕ → Bool) (from first second : ℕ) → chosen p from (first + second) ≡ chosen p from first ++ chosen p (from + first) second
chosen_split p from first second = ap (filter p) (range_split from first second) ∙ filter-append p (range_with_len from first) (range_with_len (from + first) second)

not_less : (left right : ℕ) → right ≤ left → nat_lt left right ≡ false
not_less left right at_most = false_from_ne_true (nat_lt left right) (λ less. let never = ltb-true left right less in let no_way : ⊥ = omega arith in absurd no_way)

not_at_most : (left right : ℕ) → right < left → nat_le left right ≡ false
not_at_most left right above = false_from_ne_true (nat_le left right) (λ at_most. let never = leb-true left right at_most in let no_way : ⊥ = omega arith in absurd no_way)

both : (b : Bool) {c : Bool} → c ≡ true → (b && c) ≡ b
both true e = e
both false e = refl

neither : (b : Bool) {c : Bool} → c ≡ false → (b && c) ≡ false
neither true e = e
neither false e = refl

-- What is chosen below a bound by two tests, the second of which holds just below a number, is chosen below it.
cut_below : (p q : ℕ → Bool) (number rest : ℕ) → ((at : ℕ) → at < number → q at ≡ true) → ((at : ℕ) → number ≤ at → q at ≡ false)
    → filter q (chosen p 0 (number + rest)) ≡ chosen p 0 number
cut_below p q number rest before after =
    filter-filter p q (range_with_len 0 (number + rest))
    ∙ chosen_split (λ x. p x && q x) 0 number rest
    ∙ (λ t. chosen_agree (λ x. p x && q x) p 0 number (λ at low high. both (p at) (before at (omega arith))) t ++
    chosen_none (λ x. p x && q x) (0 + number) rest (λ at low high. neither (p at) (after at (omega arith))) t)
    ∙ append-nil (chosen p 0 number)

-- The same, where the second holds just from a number on.
cut_from : (p q : ℕ → Bool) (number rest : ℕ) → ((at : ℕ) → at < number → q at ≡ false) → ((at : ℕ) → number ≤ at → q at ≡ true)
    → filter q (chosen p 0 (number + rest)) ≡ chosen p number rest
cut_from p q number rest before after =
    filter-filter p q (range_with_len 0 (number + rest))
    ∙ chosen_split (λ x. p x && q x) 0 number rest
    ∙ (λ t. chosen_none (λ x. p x && q x) 0 number (λ at low high. neither (p at) (before at (omega arith))) t ++
    chosen_agree (λ x. p x && q x) p (0 + number) rest (λ at low high. both (p at) (after at (omega arith))) t)
    ∙ ap (λ at. chosen p at rest) (let e : 0 + number ≡ number = omega arith in e)

module _ (p : ℕ → Bool) (number rest : ℕ) where
  -- What is chosen and below a number is what is chosen below it.
  pub chosen_below : filter (λ member. is_lt (word_order member number)) (chosen p 0 (number + rest)) ≡ chosen p 0 number
  chosen_below = cut_below p (λ member. is_lt (word_order member number)) number rest
      (λ at below. lt_word at number below)
      (λ at above. is_lt_word at number ∙ not_less at number above)

  -- What is chosen and above a number is what is chosen from the next one on.
  pub chosen_above : filter (λ member. is_gt (word_order member number)) (chosen p 0 (suc number + rest)) ≡ chosen p (suc number) rest
  chosen_above = cut_from p (λ member. is_gt (word_order member number)) (suc number) rest
      (λ at below. is_gt_word at number ∙ not_less number at (omega arith))
      (λ at above. is_gt_word at number ∙ lt-ltb number at (omega arith))

-- ---- members

list_any_range : (number from count : ℕ) → from ≤ number → number < from + count → list_any (λ member. member == number) (range_with_len from count) ≡ true
list_any_range number from zero low high = let never : ⊥ = omega arith in absurd never
list_any_range number from (suc count) low high = ⊎_elim
    (λ same. ap (λ b. b || list_any (λ member. member == number) (range_with_len (from + 1) count)) (eq-eqb from number same))
    (λ apart. let later : from + 1 ≤ number = ⊎_elim (λ less. omega arith) (λ more. omega arith) apart in
    ap (λ b. b || list_any (λ member. member == number) (range_with_len (from + 1) count)) (ne_eqb from number (λ same. omega arith))
    ∙ list_any_range number (from + 1) count later (omega arith))
    (cases_order from number)

-- A number below the bound is a member where it passes.
pub has-chosen : (p : ℕ → Bool) (bound number : ℕ) → number < bound → has (chosen p 0 bound) number ≡ p number
has-chosen p bound number within =
    any-filter_same (λ member. member == number) p (p number) (λ member same. ap p (eqb-true member number same)) (range_with_len 0 bound)
    ∙ ap (λ b. p number && b) (list_any_range number 0 bound (omega arith) (omega arith)) ∙ and_true (p number)
  where
    and_true : (b : Bool) → (b && true) ≡ b
    and_true true = refl
    and_true false = refl

-- The rank of a number is how many are chosen below it.
pub rank-chosen : (p : ℕ → Bool) (bound number : ℕ) → number ≤ bound → rank (chosen p 0 bound) number ≡ length (chosen p 0 number)
rank-chosen p bound number within =
    let whole : bound ≡ number + (bound - number) = omega arith in
    ap (λ end. rank (chosen p 0 end) number) whole ∙ ap length (chosen_below p number (bound - number))

-- What is chosen below a bound is what is chosen below a number, the number where it passes, and what is
-- chosen above it.
pub chosen_at : (p : ℕ → Bool) (number rest : ℕ) → chosen p 0 (suc number + rest) ≡ chosen p 0 number ++ cond (p number) (number ∷ chosen p (suc number) rest) (chosen p (suc number) rest)
chosen_at p number rest =
    let whole : suc number + rest ≡ number + suc rest = omega arith in
    let next : number + 1 ≡ suc number = omega arith in
    let start : 0 + number ≡ number = omega arith in
    ap (chosen p 0) whole ∙ chosen_split p 0 number (suc rest)
    ∙ ap (λ at. chosen p 0 number ++ chosen p at (suc rest)) start
    ∙ ap (λ at. chosen p 0 number ++ cond (p number) (number ∷ chosen p at rest) (chosen p at rest)) next

-- The member at the place of its rank.
pub nth-chosen : (p : ℕ → Bool) (bound number : ℕ) → number < bound → p number ≡ true → nth (chosen p 0 bound) (length (chosen p 0 number)) ≡ Some number
nth-chosen p bound number within passes =
    let whole : bound ≡ suc number + (bound - suc number) = omega arith in
    ap (λ end. slice_get (chosen p 0 end) (length (chosen p 0 number))) whole
    ∙ ap (λ xs. slice_get xs (length (chosen p 0 number))) (chosen_at p number (bound - suc number) ∙
    ap (λ b. chosen p 0 number ++ cond b (number ∷ chosen p (suc number) (bound - suc number)) (chosen p (suc number) (bound - suc number))) passes)
    ∙ slice_get-seam (chosen p 0 number) number (chosen p (suc number) (bound - suc number))
  where
    slice_get-seam : (xs : List ℕ) (y : ℕ) (ys : List ℕ) → slice_get (xs ++ y ∷ ys) (length xs) ≡ Some y
    slice_get-seam [] y ys = refl
    slice_get-seam (x ∷ xs) y ys = slice_get-seam xs y ys

-- ---- one more and one less

module _ (p q : ℕ → Bool) (bound number : ℕ) (within : number < bound) (others : (at : ℕ) → at ≢ number → q at ≡ p at) where
  -- A test that also passes a number chooses it beside the others.
  pub chosen_with : q number ≡ true → chosen q 0 bound ≡ with_byte (chosen p 0 bound) number
  chosen_with passes =
      let rest = bound - suc number in
      let whole : bound ≡ suc number + rest = omega arith in
      let other : bound ≡ number + suc rest = omega arith in
      ap (chosen q 0) whole ∙ chosen_at q number rest
      ∙ ap (λ b. chosen q 0 number ++ cond b (number ∷ chosen q (suc number) rest) (chosen q (suc number) rest)) passes
      ∙ (λ t. chosen_agree q p 0 number (λ at low high. others at (λ e. omega arith)) t ++ number ∷ chosen_agree q p (suc number) rest (λ at low high. others at (λ e. omega arith)) t)
      ∙ (λ t. sym (chosen_below p number (suc rest)) t ++ number ∷ sym (chosen_above p number rest) t)
      ∙ (λ t. filter (λ member. is_lt (word_order member number)) (chosen p 0 (sym other t)) ++ number ∷ filter (λ member. is_gt (word_order member number)) (chosen p 0 (sym whole t)))

  -- A test that fails a number chooses just the others.
  pub chosen_without : q number ≡ false → chosen q 0 bound ≡ without_byte (chosen p 0 bound) number
  chosen_without fails =
      chosen_agree q (λ x. p x && not (x == number)) 0 bound (λ at low high. ⊎_elim
      (λ same. ap q same ∙ fails ∙ sym (ap (λ b. p at && not b) (eq-eqb at number same) ∙ and_false (p at)))
      (λ apart. let differ : at ≢ number = λ e. ⊎_elim (λ less. omega arith) (λ more. omega arith) apart in
      others at differ ∙ sym (ap (λ b. p at && not b) (ne_eqb at number differ) ∙ and_true (p at)))
      (cases_order at number))
      ∙ sym (filter-filter p (λ x. not (x == number)) (range_with_len 0 bound))
    where
      and_false : (b : Bool) → (b && false) ≡ false
      and_false true = refl
      and_false false = refl

      and_true : (b : Bool) → (b && true) ≡ b
      and_true true = refl
      and_true false = refl

-- ---- the nearest

find_past : (p q : ℕ → Bool) (x : ℕ) (xs : List ℕ) → (p x && q x) ≡ false → find q (cond (p x) (x ∷ xs) xs) ≡ find q xs
find_past p q x xs = elim (p x) as (λ b. (b && q x) ≡ false → find q (cond b (x ∷ xs) xs) ≡ find q xs) [
  | true ↦ λ fails. ap (λ b. cond b (Some x) (find q xs)) fails
  | false ↦ λ _. refl
]

-- The first that is chosen and passes a second test.
find-chosen : (p q : ℕ → Bool) (number from count : ℕ) → from ≤ number → number < from + count → p number ≡ true → q number ≡ true
    → ((at : ℕ) → from ≤ at → at < number → (p at && q at) ≡ false) → find q (chosen p from count) ≡ Some number
find-chosen p q number from zero low high passes finds none = let never : ⊥ = omega arith in absurd never
find-chosen p q number from (suc count) low high passes finds none = ⊎_elim
    (λ same. ap (λ b. find q (cond b (from ∷ chosen p (from + 1) count) (chosen p (from + 1) count))) (ap p same ∙ passes) ∙
    ap (λ b. cond b (Some from) (find q (chosen p (from + 1) count))) (ap q same ∙ finds) ∙ ap Some same)
    (λ apart. let later : from < number = ⊎_elim (λ less. less) (λ more. omega arith) apart in
    find_past p q from (chosen p (from + 1) count) (none from (omega arith) later)
    ∙ find-chosen p q number (from + 1) count (omega arith) (omega arith) passes finds (λ at low high. none at (omega arith) high))
    (cases_order from number)

find-chosen_none : (p q : ℕ → Bool) (from count : ℕ) → ((at : ℕ) → from ≤ at → at < from + count → (p at && q at) ≡ false) → find q (chosen p from count) ≡ None
find-chosen_none p q from zero none = refl
find-chosen_none p q from (suc count) none =
    find_past p q from (chosen p (from + 1) count) (none from (omega arith) (omega arith))
    ∙ find-chosen_none p q (from + 1) count (λ at low high. none at (omega arith) (omega arith))

find_last_past : (p q : ℕ → Bool) (x : ℕ) (xs : List ℕ) → (p x && q x) ≡ false → find_last q (cond (p x) (x ∷ xs) xs) ≡ find_last q xs
find_last_past p q x xs = elim (p x) as (λ b. (b && q x) ≡ false → find_last q (cond b (x ∷ xs) xs) ≡ find_last q xs) [
  | true ↦ λ fails. ap (λ b. option_or (find_last q xs) (cond b (Some x) None)) fails ∙ or_none (find_last q xs)
  | false ↦ λ _. refl
]
  where
    or_none : (found : Option ℕ) → option_or found None ≡ found
    or_none None = refl
    or_none (Some x) = refl

find_last-chosen_none : (p q : ℕ → Bool) (from count : ℕ) → ((at : ℕ) → from ≤ at → at < from + count → (p at && q at) ≡ false) → find_last q (chosen p from count) ≡ None
find_last-chosen_none p q from zero none = refl
find_last-chosen_none p q from (suc count) none =
    find_last_past p q from (chosen p (from + 1) count) (none from (omega arith) (omega arith))
    ∙ find_last-chosen_none p q (from + 1) count (λ at low high. none at (omega arith) (omega arith))

find_last_kept : (p q : ℕ → Bool) (x number : ℕ) (xs : List ℕ) → find_last q xs ≡ Some number → find_last q (cond (p x) (x ∷ xs) xs) ≡ Some number
find_last_kept p q x number xs found = elim (p x) as (λ b. find_last q (cond b (x ∷ xs) xs) ≡ Some number) [
  | true ↦ ap (λ answer. option_or answer (cond (q x) (Some x) None)) found
  | false ↦ found
]

-- The last that is chosen and passes a second test.
find_last-chosen : (p q : ℕ → Bool) (number from count : ℕ) → from ≤ number → number < from + count → p number ≡ true → q number ≡ true
    → ((at : ℕ) → number < at → at < from + count → (p at && q at) ≡ false) → find_last q (chosen p from count) ≡ Some number
find_last-chosen p q number from zero low high passes finds none = let never : ⊥ = omega arith in absurd never
find_last-chosen p q number from (suc count) low high passes finds none = ⊎_elim
    (λ same. ap (λ b. find_last q (cond b (from ∷ chosen p (from + 1) count) (chosen p (from + 1) count))) (ap p same ∙ passes)
    ∙ (λ t. option_or (find_last-chosen_none p q (from + 1) count (λ at low high. none at (omega arith) (omega arith)) t) (cond ((ap q same ∙ finds) t) (Some from) None)) ∙ ap Some same)
    (λ apart. let later : from < number = ⊎_elim (λ less. less) (λ more. omega arith) apart in
    find_last_kept p q from number (chosen p (from + 1) count)
    (find_last-chosen p q number (from + 1) count (omega arith) (omega arith) passes finds (λ at low high. none at low (omega arith))))
    (cases_order from number)

fails_left : (c : Bool) {b : Bool} → b ≡ false → (b && c) ≡ false
fails_left c e = ap (λ b. b && c) e

fails_right : (b : Bool) {c : Bool} → c ≡ false → (b && c) ≡ false
fails_right true e = e
fails_right false e = refl

module _ (p : ℕ → Bool) (bound from : ℕ) where
  -- The next member is the least from a number on that passes.
  pub next_from-chosen : (number : ℕ) → from ≤ number → number < bound → p number ≡ true → ((at : ℕ) → from ≤ at → at < number → p at ≡ false)
      → next_from (chosen p 0 bound) from ≡ Some number
  next_from-chosen number low high passes none =
      find-chosen p (λ key. is_ge (word_order key from)) number 0 bound (omega arith) (omega arith) passes (is_ge_word number from ∙ le-leb from number low)
      (λ at _ below. ⊎_elim
      (λ early. fails_right (p at) (is_ge_word at from ∙ not_at_most from at early))
      (λ late. fails_left (is_ge (word_order at from)) (none at late below))
      (cases_lt at from))

  pub next_from-chosen_none : ((at : ℕ) → from ≤ at → at < bound → p at ≡ false) → next_from (chosen p 0 bound) from ≡ None
  next_from-chosen_none none =
      find-chosen_none p (λ key. is_ge (word_order key from)) 0 bound
      (λ at _ below. ⊎_elim
      (λ early. fails_right (p at) (is_ge_word at from ∙ not_at_most from at early))
      (λ late. fails_left (is_ge (word_order at from)) (none at late (omega arith)))
      (cases_lt at from))

  -- The previous member is the greatest up to a number that passes.
  pub prev_from-chosen : (number : ℕ) → number ≤ from → number < bound → p number ≡ true → ((at : ℕ) → number < at → at ≤ from → p at ≡ false)
      → prev_from (chosen p 0 bound) from ≡ Some number
  prev_from-chosen number low high passes none =
      find-reverse (λ key. is_le (word_order key from)) (chosen p 0 bound)
      ∙ find_last-chosen p (λ key. is_le (word_order key from)) number 0 bound (omega arith) (omega arith) passes (is_le_word number from ∙ le-leb number from low)
      (λ at above _. ⊎_elim
      (λ late. fails_right (p at) (is_le_word at from ∙ not_at_most at from late))
      (λ early. fails_left (is_le (word_order at from)) (none at above early))
      (cases_lt from at))

  pub prev_from-chosen_none : ((at : ℕ) → at < bound → at ≤ from → p at ≡ false) → prev_from (chosen p 0 bound) from ≡ None
  prev_from-chosen_none none =
      find-reverse (λ key. is_le (word_order key from)) (chosen p 0 bound)
      ∙ find_last-chosen_none p (λ key. is_le (word_order key from)) 0 bound
      (λ at _ below. ⊎_elim
      (λ late. fails_right (p at) (is_le_word at from ∙ not_at_most at from late))
      (λ early. fails_left (is_le (word_order at from)) (none at (omega arith) early))
      (cases_lt from at))

-- ---- what is chosen is a set

range_above : (x from count : ℕ) → x < from → AllByRecursion (λ y. word_order x y ≡ Less) (range_with_len from count)
range_above x from zero below = tt
range_above x from (suc count) below = (less_word x from below, range_above x (from + 1) count (omega arith))

range_ascending : (from count : ℕ) → IsStrictlySortedBy word_order (range_with_len from count)
unfolding IsStrictlySortedBy
range_ascending from zero = tt
range_ascending from (suc count) = (range_above from (from + 1) count (omega arith), range_ascending (from + 1) count)

-- What is chosen below 256 is a set of bytes.
pub chosen-IsByteSet : (p : ℕ → Bool) (bound : ℕ) → bound ≤ 256 → IsByteSet (chosen p 0 bound)
chosen-IsByteSet p bound within = record {
  ascending = ascending-filter word_order p (range_with_len 0 bound) (range_ascending 0 bound);
  bytes =
      All-filter p (λ byte. byte < 256) (range_with_len 0 bound) (λ k d inside. let long = length-range_with_len 0 bound in let value = get_or-range_with_len 0 bound k d (omega arith) in omega arith);
}
