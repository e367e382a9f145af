-- The chunks of a list: what stands before and behind one, and what a change of one makes of the list.
use Rattle.std.proofs.Common.{◌≡◌, ℕ, zero, suc, ◌+◌, ◌<◌, ◌≤◌, ◌^◌, ◌/◌, ◌⊎◌, inl, inr, cond, true, false, not, List, [], ◌∷◌, ◌++◌, length, take, drop, get_or, set, insert}
use Rattle.std.proofs.Common.{remove, unwrap_or, Some, None, IsSome, Less, Equal, Greater, refl, sym, ap, ◌∙◌, subst, arith, append_assoc, add-zero, add-one, is_some, T}
use Rattle.std.specs.Ordering.{is_eq, is_lt, eq_by_cmp}
use Rattle.std.specs.Cmp.{ranked, nat_cmp_total}
use Rattle.std.specs.FinMap.{find, put, is_sorted}
use Rattle.std.specs.FinMap.Entries.{by_order, below_all, is_sorted-put, is_sorted-where_key, length-put, length_without}
use Rattle.std.proofs.lemmas.Bool.{cases_lt}
use Rattle.std.proofs.lemmas.List.{take-append-drop, set_split, drop_all, length-take-le, length-drop, get_or_read, nil_from_length}
use Rattle.std.proofs.lemmas.List.Concat.{flat_map-append}
use Rattle.std.proofs.lemmas.List.Sums.{sum_by-cons, sum_by-append}
use Rattle.judy_model.specs.Keys.{word_order}
use Rattle.judy_model.proofs.lemmas.maps.Pairs.{first_below, rest_sorted}
use Rattle.judy_model.proofs.lemmas.maps.Tests.{left_of, right_of, both}
use Rattle.judy_sums.specs.Pairs.{Pairs, sum_of, sum_below, part_below, number_in, without}
use Rattle.judy_sums.specs.Chunks.{AllBelow, AllFrom, Ascends, AllFilled, AreChunks, BelongsTo, BeginsBy, BeginsAbove, joined}
use Rattle.judy_sums.proofs.PairLemmas.{tail_ascends, below_more, from_less, before_pair, from_first, find_none, find_front, find_behind, put_front, put_behind, without_front}
use Rattle.judy_sums.proofs.PairLemmas.{without_behind, sum_front, sum_behind}

-- ---- one chunk among others

pub joined_append : (front back : List Pairs) → joined (front ++ back) ≡ joined front ++ joined back
joined_append front back = flat_map-append (λ (chunk : Pairs). chunk) front back

pub joined_split : (chunks : List Pairs) (at : ℕ) → at < length chunks → joined chunks ≡ joined (take at chunks) ++ (get_or chunks at [] ++ joined (drop (suc at) chunks))
joined_split [] at within = absurd (omega arith)
joined_split (chunk ∷ rest) zero within = refl
joined_split (chunk ∷ rest) (suc at) within =
    ap (λ pairs. chunk ++ pairs) (joined_split rest at (omega arith)) ∙ sym (append_assoc chunk (joined (take at rest)) (get_or rest at [] ++ joined (drop (suc at) rest)))

pub joined_set : (chunks : List Pairs) (at : ℕ) (chunk : Pairs) → at < length chunks → joined (set chunks at chunk) ≡ joined (take at chunks) ++ (chunk ++ joined (drop (suc at) chunks))
joined_set chunks at chunk within = ap joined (set_split chunks at chunk within) ∙ joined_append (take at chunks) (chunk ∷ drop (suc at) chunks)

sum_append : (front back : Pairs) → sum_of (front ++ back) ≡ sum_of front + sum_of back
sum_append = sum_by-append (λ (pair : ℕ × ℕ). pair.1)

-- Steps of loops over the chunks.
module _ (chunks : List Pairs) (at : ℕ) (within : at < length chunks) where
  pub sum_within : sum_of (joined (take at chunks)) + sum_of (get_or chunks at []) ≤ sum_of (joined chunks)
  sum_within =
      let whole = ap sum_of (joined_split chunks at within) in
      let outer = sum_append (joined (take at chunks)) (get_or chunks at [] ++ joined (drop (suc at) chunks)) in
      let inner = sum_append (get_or chunks at []) (joined (drop (suc at) chunks)) in
      omega arith

-- ---- where a word belongs

pub filled_at : (chunks : List Pairs) (at : ℕ) → AllFilled chunks → at < length chunks → (pair : ℕ × ℕ) × (rest : Pairs) × (get_or chunks at [] ≡ pair ∷ rest)
filled_at [] at filled within = absurd (omega arith)
filled_at ([] ∷ others) at filled within = absurd filled
filled_at ((pair ∷ rest) ∷ others) zero filled within = (pair, rest, refl)
filled_at ((pair ∷ rest) ∷ others) (suc at) filled within = filled_at others at filled (omega arith)

drop_ascends : (chunks : List Pairs) (at : ℕ) → Ascends (joined chunks) → Ascends (joined (drop at chunks))
drop_ascends chunks at ascend =
    tail_ascends (joined (take at chunks)) (joined (drop at chunks)) (subst Ascends (ap joined (sym (take-append-drop at chunks)) ∙ joined_append (take at chunks) (drop at chunks)) ascend)

joined_drop : (chunks : List Pairs) (at : ℕ) → at < length chunks → joined (drop at chunks) ≡ get_or chunks at [] ++ joined (drop (suc at) chunks)
joined_drop [] at within = absurd (omega arith)
joined_drop (chunk ∷ rest) zero within = refl
joined_drop (chunk ∷ rest) (suc at) within = joined_drop rest at (omega arith)

behind_begins : (chunks : List Pairs) (at word : ℕ) → AreChunks chunks → BeginsAbove (get_or chunks at []) word → (at < length chunks) ⊎ (length chunks ≤ at) →
    AllFrom (joined (drop at chunks)) (suc word)
behind_begins chunks at word are begins (inl within) =
    let first = filled_at chunks at are.filled within in
    let is = joined_drop chunks at within ∙ ap (λ chunk. chunk ++ joined (drop (suc at) chunks)) first.2 in
    let above : word < first.0.0 = subst (λ chunk. BeginsAbove chunk word) first.2 begins in
    subst (λ pairs. AllFrom pairs (suc word)) (sym is) (from_first first.0 (first.1 ++ joined (drop (suc at) chunks)) (suc word) (subst Ascends is (drop_ascends chunks at are.ascend)) (omega arith))
behind_begins chunks at word are begins (inr past) = subst (λ rest. AllFrom (joined rest) (suc word)) (sym (drop_all at chunks past)) tt

before_begins : (chunks : List Pairs) (at word : ℕ) → AreChunks chunks → at < length chunks → (0 < at → BeginsBy (get_or chunks at []) word) → AllBelow (joined (take at chunks)) word
before_begins chunks zero word are within begins = tt
before_begins chunks (suc at) word are within begins =
    let first = filled_at chunks (suc at) are.filled within in
    let is = joined_split chunks (suc at) within ∙ ap (λ chunk. joined (take (suc at) chunks) ++ (chunk ++ joined (drop (suc (suc at)) chunks))) first.2 in
    let least : first.0.0 ≤ word = subst (λ chunk. BeginsBy chunk word) first.2 (begins (omega arith)) in
    below_more (joined (take (suc at) chunks)) first.0.0 word least (before_pair (joined (take (suc at) chunks)) first.0 (first.1 ++ joined (drop (suc (suc at)) chunks)) (subst Ascends is are.ascend))

-- A word belongs to the last chunk that doesn't begin above it.
pub belongs : (chunks : List Pairs) (word at : ℕ) → AreChunks chunks → at < length chunks → (0 < at → BeginsBy (get_or chunks at []) word) →
    BeginsAbove (get_or chunks (suc at) []) word → BelongsTo chunks word at
belongs chunks word at are within by above = record {
  within = within;
  before = before_begins chunks at word are within by;
  behind = behind_begins chunks (suc at) word are above (cases_lt (suc at) (length chunks));
}

-- ---- what such a chunk says of the whole list

pub rest_from : (word : ℕ) (pair : ℕ × ℕ) (rest : Pairs) → AllFrom (pair ∷ rest) word → AllFrom rest word
rest_from word pair rest all = all.1

below_front : (word : ℕ) (front back : Pairs) → T (below_all word_order word (front ++ back)) → T (below_all word_order word front)
below_front word [] back all = tt
below_front word (pair ∷ rest) back all =
    both (is_lt (word_order word pair.0)) (below_all word_order word rest)
    (left_of (is_lt (word_order word pair.0)) (below_all word_order word (rest ++ back)) all)
    (below_front word rest back (right_of (is_lt (word_order word pair.0)) (below_all word_order word (rest ++ back)) all))

ascends_front : (front back : Pairs) → Ascends (front ++ back) → Ascends front
ascends_front [] back ascend = tt
ascends_front (pair ∷ rest) back ascend =
    both (below_all word_order pair.0 rest) (is_sorted word_order rest)
    (below_front pair.0 rest back (first_below word_order pair (rest ++ back) ascend))
    (ascends_front rest back (rest_sorted word_order pair (rest ++ back) ascend))

below_append : (front back : Pairs) (word : ℕ) → sum_below (front ++ back) word ≡ sum_below front word + sum_below back word
below_append front back word = sum_by-append (part_below word) front back

module _ (chunks : List Pairs) (word at : ℕ) (are : AreChunks chunks) (here : BelongsTo chunks word at) where
  chunk : Pairs
  chunk = get_or chunks at []

  front : Pairs
  front = joined (take at chunks)

  back : Pairs
  back = joined (drop (suc at) chunks)

  whole : joined chunks ≡ front ++ (chunk ++ back)
  unfolding front chunk back
  whole = joined_split chunks at here.within

  pub chunk_ascends : Ascends (get_or chunks at [])
  unfolding front chunk back
  chunk_ascends = ascends_front chunk back (tail_ascends front (chunk ++ back) (subst Ascends whole are.ascend))

  pub find_chunk : find word_order word (joined chunks) ≡ find word_order word (get_or chunks at [])
  unfolding front chunk back
  find_chunk = ap (find word_order word) whole ∙ find_front front (chunk ++ back) word here.before ∙ find_behind chunk back word here.behind

  -- What is below the word in the list is what stands before the chunk, and what is below the word in it.
  pub below_is : sum_below (joined chunks) word ≡ sum_of (joined (take at chunks)) + sum_below (get_or chunks at []) word
  unfolding front chunk back
  below_is =
      ap (λ pairs. sum_below pairs word) whole
      ∙ below_append front (chunk ++ back) word
      ∙ ap (λ n. sum_below front word + n) (below_append chunk back word ∙ ap (λ n. sum_below chunk word + n)
      (sum_behind back word (from_less back word (suc word) (omega arith) here.behind)) ∙ add-zero (sum_below chunk word))
      ∙ ap (λ n. n + sum_below chunk word) (sum_front front word here.before)

  -- To put a word into its chunk is to put it into the list.
  pub put_is : (number : ℕ) → joined (set chunks at (put word_order word number (get_or chunks at []))) ≡ put word_order word number (joined chunks)
  unfolding front chunk back
  put_is number =
      joined_set chunks at (put word_order word number chunk) here.within
      ∙ ap (λ pairs. front ++ pairs) (sym (put_behind chunk back word number here.behind))
      ∙ sym (put_front front (chunk ++ back) word number here.before)
      ∙ ap (put word_order word number) (sym whole)

  -- And to take it out of there is to take it out of the list.
  pub without_is : joined (set chunks at (without word (get_or chunks at []))) ≡ without word (joined chunks)
  unfolding front chunk back
  without_is =
      joined_set chunks at (without word chunk) here.within
      ∙ ap (λ pairs. front ++ pairs) (sym (without_behind chunk back word here.behind))
      ∙ sym (without_front front (chunk ++ back) word here.before)
      ∙ ap (without word) (sym whole)

-- ---- what a put and a removal leave

pub put_fills : (pairs : Pairs) (word number : ℕ) → (pair : ℕ × ℕ) × (rest : Pairs) × (put word_order word number pairs ≡ pair ∷ rest)
put_fills [] word number = ((word, number), [], refl)
put_fills (pair ∷ rest) word number =
    elim (word_order word pair.0) as (λ r. (first : ℕ × ℕ) × (others : Pairs) × (by_order r ((word, number) ∷ pair ∷ rest) ((pair.0, number) ∷ rest)
    (pair ∷ put word_order word number rest) ≡ first ∷ others)) [
      | Less ↦ ((word, number), pair ∷ rest, refl)
      | Equal ↦ ((pair.0, number), rest, refl)
      | Greater ↦ (pair, put word_order word number rest, refl)
    ]

filled_set : (chunks : List Pairs) (at : ℕ) (pair : ℕ × ℕ) (rest : Pairs) → AllFilled chunks → AllFilled (set chunks at (pair ∷ rest))
filled_set [] at pair rest filled = tt
filled_set ([] ∷ others) at pair rest filled = absurd filled
filled_set ((first ∷ more) ∷ others) zero pair rest filled = filled
filled_set ((first ∷ more) ∷ others) (suc at) pair rest filled = filled_set others at pair rest filled

sum_one : (pair : ℕ × ℕ) (rest : Pairs) → sum_of (pair ∷ rest) ≡ pair.1 + sum_of rest
sum_one = sum_by-cons (λ (pair : ℕ × ℕ). pair.1)

-- A put changes the sum by the number.
pub sum_put : (pairs : Pairs) (word number : ℕ) → Ascends pairs → sum_of (put word_order word number pairs) + number_in pairs word ≡ sum_of pairs + number
sum_put [] word number ascend = let one = sum_one (word, number) [] in omega arith
sum_put (pair ∷ rest) word number ascend =
    let pairs : Pairs = pair ∷ rest in
    let old = sum_one pair rest in
    elim (word_order word pair.0) as (λ r. word_order word pair.0 ≡ r
    → sum_of (by_order r ((word, number) ∷ pair ∷ rest) ((pair.0, number) ∷ rest) (pair ∷ put word_order word number rest)) + unwrap_or
    (cond (is_eq r) (Some pair.1) (find word_order word rest)) 0 ≡ sum_of (pair ∷ rest) + number) [
      | Less ↦ λ less.
          let above : suc word ≤ pair.0 = let before = ranked word pair.0 Less (sym less) in omega arith in
          let none = ap (λ found. unwrap_or found 0) (find_none rest word (rest_from (suc word) pair rest (from_first pair rest (suc word) ascend above))) in
          let new = sum_one (word, number) (pair ∷ rest) in
          omega arith
      | Equal ↦ λ same. let new = sum_one (pair.0, number) rest in omega arith
      | Greater ↦ λ greater.
          let new = sum_one pair (put word_order word number rest) in
          let later = sum_put rest word number (rest_sorted word_order pair rest ascend) in
          omega arith
    ] refl

sum_without : (pairs : Pairs) (word : ℕ) → sum_of (without word pairs) ≤ sum_of pairs
sum_without [] word = omega arith
sum_without (pair ∷ rest) word =
    let later = sum_without rest word in
    let old = sum_one pair rest in
    let new = sum_one pair (without word rest) in
    elim (not (eq_by_cmp word_order word pair.0)) as (λ b. sum_of (cond b (pair ∷ without word rest) (without word rest)) ≤ sum_of (pair ∷ rest)) [ true ↦ omega arith | false ↦ omega arith ]

module _ (chunks : List Pairs) (word at : ℕ) (are : AreChunks chunks) (here : BelongsTo chunks word at) where
  pub are_put : (number : ℕ) → length (put word_order word number (joined chunks)) < 2 ^ 64 → sum_of (put word_order word number (joined chunks)) < 2 ^ 64 →
      AreChunks (set chunks at (put word_order word number (get_or chunks at [])))
  are_put number few fits =
      let is = sym (put_is chunks word at are here number) in
      let first = put_fills (get_or chunks at []) word number in
      record {
        ascend = subst Ascends is (is_sorted-put word_order nat_cmp_total word number (joined chunks) are.ascend);
        filled = subst (λ pairs. AllFilled (set chunks at pairs)) (sym first.2) (filled_set chunks at first.0 first.1 are.filled);
        few = subst (λ pairs. length pairs < 2 ^ 64) is few;
        fits = subst (λ pairs. sum_of pairs < 2 ^ 64) is fits;
      }

-- A put of a word that is there leaves as many pairs.
pub length_there : (pairs : Pairs) (word number : ℕ) → Ascends pairs → IsSome (find word_order word pairs) → length (put word_order word number pairs) ≡ length pairs
length_there pairs word number ascend is = length-put word_order nat_cmp_total word number pairs ascend ∙ ap (λ b. cond b (length pairs) (length pairs + 1)) is

-- And of a new one, one more.
pub length_new : (pairs : Pairs) (word number : ℕ) → Ascends pairs → find word_order word pairs ≡ None → length (put word_order word number pairs) ≡ length pairs + 1
length_new pairs word number ascend absent = length-put word_order nat_cmp_total word number pairs ascend ∙ ap (λ found. cond (is_some found) (length pairs) (length pairs + 1)) absent

-- ---- a chunk in two

pub first_of_some : {X : Type 0} (xs : List X) → 1 ≤ length xs → (x : X) × (rest : List X) × (xs ≡ x ∷ rest)
first_of_some [] some = absurd (omega arith)
first_of_some (x ∷ rest) some = (x, rest, refl)

filled_parted : (chunks : List Pairs) (at : ℕ) (pair other : ℕ × ℕ) (rest more : Pairs) → at < length chunks → AllFilled chunks →
    AllFilled (take at chunks ++ (pair ∷ rest) ∷ (other ∷ more) ∷ drop (suc at) chunks)
filled_parted [] at pair other rest more within filled = absurd (omega arith)
filled_parted ([] ∷ others) at pair other rest more within filled = absurd filled
filled_parted ((first ∷ chunk) ∷ others) zero pair other rest more within filled = filled
filled_parted ((first ∷ chunk) ∷ others) (suc at) pair other rest more within filled = filled_parted others at pair other rest more (omega arith) filled

module _ (chunks : List Pairs) (at half : ℕ) (within : at < length chunks) where
  lower : Pairs
  lower = take half (get_or chunks at [])

  upper : Pairs
  upper = drop half (get_or chunks at [])

  pub parted_joined : joined (take at chunks ++ take half (get_or chunks at []) ∷ drop half (get_or chunks at []) ∷ drop (suc at) chunks) ≡ joined chunks
  unfolding lower upper
  parted_joined =
      joined_append (take at chunks) (lower ∷ upper ∷ drop (suc at) chunks)
      ∙ ap (λ pairs. joined (take at chunks) ++ pairs) (sym (append_assoc lower upper (joined (drop (suc at) chunks))) ∙
      ap (λ chunk. chunk ++ joined (drop (suc at) chunks)) (take-append-drop half (get_or chunks at [])))
      ∙ sym (joined_split chunks at within)

  pub parted_are : AreChunks chunks → 1 ≤ half → half < length (get_or chunks at []) → AreChunks (take at chunks ++
      take half (get_or chunks at []) ∷ drop half (get_or chunks at []) ∷ drop (suc at) chunks)
  unfolding lower upper
  parted_are are some less =
      let low = first_of_some lower (let long = length-take-le half (get_or chunks at []) (omega arith) in omega arith) in
      let high = first_of_some upper (let long = length-drop half (get_or chunks at []) in omega arith) in
      record {
        ascend = subst Ascends (sym parted_joined) are.ascend;
        filled =
            subst (λ chunk. AllFilled (take at chunks ++ chunk ∷ upper ∷ drop (suc at) chunks)) (sym low.2)
            (subst (λ chunk. AllFilled (take at chunks ++ (low.0 ∷ low.1) ∷ chunk ∷ drop (suc at) chunks)) (sym high.2) (filled_parted chunks at low.0 high.0 low.1 high.1 within are.filled));
        few = subst (λ pairs. length pairs < 2 ^ 64) (sym parted_joined) are.few;
        fits = subst (λ pairs. sum_of pairs < 2 ^ 64) (sym parted_joined) are.fits;
      }

parted_cut : (chunks : List Pairs) (at : ℕ) (lower upper : Pairs) → at < length chunks → insert (set chunks at lower) (suc at) upper ≡ take at chunks ++ lower ∷ upper ∷ drop (suc at) chunks
parted_cut [] at lower upper within = absurd (omega arith)
parted_cut (chunk ∷ rest) zero lower upper within = refl
parted_cut (chunk ∷ rest) (suc at) lower upper within = ap (λ all. chunk ∷ all) (parted_cut rest at lower upper (omega arith))

-- As the code has it: the halves of the chunk that was lent.
parted_seen : (chunks : List Pairs) (at : ℕ) → at < length chunks → (lent lower upper : Pairs) → lent ≡ get_or chunks at lent → lower ≡ take (length lent / 2) lent →
    upper ≡ drop (length lent / 2) lent
    → insert (set chunks at lower) (at + 1) upper ≡ take at chunks ++ take (length (get_or chunks at []) / 2) (get_or chunks at []) ∷ drop (length (get_or chunks at []) / 2)
    (get_or chunks at []) ∷ drop (suc at) chunks
parted_seen chunks at within lent lower upper is_lent is_lower is_upper =
    let chunk : Pairs = get_or chunks at [] in
    let lends : lent ≡ chunk = get_or_read chunks at lent within is_lent [] in
    let uppers : upper ≡ drop (length chunk / 2) chunk = is_upper ∙ ap (λ pairs. drop (length pairs / 2) pairs) lends in
    let lowers : lower ≡ take (length chunk / 2) chunk = is_lower ∙ ap (λ pairs. take (length pairs / 2) pairs) lends in
    ap (λ n. insert (set chunks at lower) n upper) (add-one at)
    ∙ parted_cut chunks at lower upper within
    ∙ (λ t. take at chunks ++ lowers t ∷ uppers t ∷ drop (suc at) chunks)

pub parted_all : (chunks : List Pairs) (at : ℕ) → at < length chunks → {reserved all : List Pairs} → reserved ≡ chunks → (lent lower upper : Pairs) → lent ≡ get_or reserved at lent
    → lower ≡ take (length lent / 2) lent → upper ≡ drop (length lent / 2) lent → all ≡ insert (set reserved at lower) (at + 1) upper
    → all ≡ take at chunks ++ take (length (get_or chunks at []) / 2) (get_or chunks at []) ∷ drop (length (get_or chunks at []) / 2) (get_or chunks at []) ∷ drop (suc at) chunks
parted_all chunks at within same lent lower upper is_lent is_lower is_upper is =
    is ∙ ap (λ (chunks : List Pairs). insert (set chunks at lower) (at + 1) upper) same
    ∙ parted_seen chunks at within lent lower upper (is_lent ∙ ap (λ (chunks : List Pairs). get_or chunks at lent) same) is_lower is_upper

-- ---- a chunk that is lent and changed

removed_is : (chunks : List Pairs) (at : ℕ) (new : Pairs) → remove (set chunks at new) at ≡ take at chunks ++ drop (suc at) chunks
removed_is [] at new = refl
removed_is (first ∷ rest) zero new = refl
removed_is (first ∷ rest) (suc at) new = ap (λ all. first ∷ all) (removed_is rest at new)

joined_removed : (chunks : List Pairs) (at : ℕ) (new : Pairs) → at < length chunks → joined (remove (set chunks at new) at) ≡ joined (take at chunks) ++ ([] ++ joined (drop (suc at) chunks))
joined_removed chunks at new within = ap joined (removed_is chunks at new) ∙ joined_append (take at chunks) (drop (suc at) chunks)

filled_removed : (chunks : List Pairs) (at : ℕ) → AllFilled chunks → AllFilled (take at chunks ++ drop (suc at) chunks)
filled_removed [] zero filled = tt
filled_removed [] (suc at) filled = tt
filled_removed ([] ∷ others) at filled = absurd filled
filled_removed ((first ∷ more) ∷ others) zero filled = filled
filled_removed ((first ∷ more) ∷ others) (suc at) filled = filled_removed others at filled

module _ (chunks seen : List Pairs) (word at : ℕ) (lent : Pairs) (are : AreChunks chunks) (same : seen ≡ chunks) (belong : BelongsTo seen word at) (is : lent ≡ get_or chunks at lent) where
  here : BelongsTo chunks word at
  here = subst (λ all. BelongsTo all word at) same belong

  is_chunk : lent ≡ get_or chunks at []
  is_chunk = get_or_read chunks at lent here.within is []

  pub lent_ascends : Ascends lent
  lent_ascends = subst Ascends (sym is_chunk) (chunk_ascends chunks word at are here)

  pub lent_found : find word_order word lent ≡ find word_order word (joined chunks)
  lent_found = ap (find word_order word) is_chunk ∙ sym (find_chunk chunks word at are here)

  pub lent_put : (new : Pairs) (number : ℕ) → new ≡ put word_order word number lent → joined (set chunks at new) ≡ put word_order word number (joined chunks)
  lent_put new number e = ap (λ chunk. joined (set chunks at chunk)) (e ∙ ap (put word_order word number) is_chunk) ∙ put_is chunks word at are here number

  pub lent_are : (new : Pairs) (number : ℕ) → new ≡ put word_order word number lent → length (put word_order word number (joined chunks)) < 2 ^ 64 →
      sum_of (put word_order word number (joined chunks)) < 2 ^ 64 → AreChunks (set chunks at new)
  lent_are new number e few fits = subst (λ chunk. AreChunks (set chunks at chunk)) (sym (e ∙ ap (put word_order word number) is_chunk)) (are_put chunks word at are here number few fits)

  pub lent_without : (new : Pairs) → new ≡ without word lent → joined (set chunks at new) ≡ without word (joined chunks)
  lent_without new e = ap (λ chunk. joined (set chunks at chunk)) (e ∙ ap (without word) is_chunk) ∙ without_is chunks word at are here

  without_few : length (without word (joined chunks)) < 2 ^ 64
  without_few = let less = length_without word_order nat_cmp_total word (joined chunks) are.ascend in let few = are.few in omega arith

  without_fits : sum_of (without word (joined chunks)) < 2 ^ 64
  without_fits = let less = sum_without (joined chunks) word in let fits = are.fits in omega arith

  are_without : (all : List Pairs) → AllFilled all → joined all ≡ without word (joined chunks) → AreChunks all
  are_without all filled e = record {
    ascend = subst Ascends (sym e) (is_sorted-where_key word_order (λ other. not (eq_by_cmp word_order word other)) (joined chunks) are.ascend);
    filled = filled;
    few = subst (λ pairs. length pairs < 2 ^ 64) (sym e) without_few;
    fits = subst (λ pairs. sum_of pairs < 2 ^ 64) (sym e) without_fits;
  }

  -- Where a pair is left the chunk stays.
  pub lent_are_left : (new : Pairs) → new ≡ without word lent → 1 ≤ length new → AreChunks (set chunks at new)
  lent_are_left new e some =
      let first = first_of_some new some in
      are_without (set chunks at new) (subst (λ chunk. AllFilled (set chunks at chunk)) (sym first.2) (filled_set chunks at first.0 first.1 are.filled)) (lent_without new e)

  -- And else it goes.
  pub lent_gone : (new : Pairs) → new ≡ without word lent → length new ≡ 0 → joined (remove (set chunks at new) at) ≡ without word (joined chunks)
  lent_gone new e none =
      joined_removed chunks at new here.within
      ∙ sym (joined_set chunks at [] here.within)
      ∙ ap (λ chunk. joined (set chunks at chunk)) (sym (nil_from_length new none))
      ∙ lent_without new e

  pub lent_are_gone : (new : Pairs) → new ≡ without word lent → length new ≡ 0 → AreChunks (remove (set chunks at new) at)
  lent_are_gone new e none =
      are_without (remove (set chunks at new) at) (subst AllFilled (sym (removed_is chunks at new)) (filled_removed chunks at are.filled)) (lent_gone new e none)
