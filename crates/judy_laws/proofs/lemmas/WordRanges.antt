-- Ranges of words: which words stand in one, how many of them are no keys, and what a set has that a range was filled of or
-- turned round in.
use Rattle.std.proofs.Common.{◌≡◌, ℕ, zero, suc, ◌+◌, ◌-◌, ◌<◌, ◌≤◌, Bool, true, false, cond, not, ◌&&◌, ◌||◌, T, ◌⊎◌, ◌↔◌, inl, inr, ⊎_elim, List}
use Rattle.std.proofs.Common.{[], ◌∷◌, ◌++◌, map, length, filter, Contains, All, IsFalse}
use Rattle.std.proofs.Common.{Option, Some, None, is_some, refl, sym, ap, ◌∙◌, arith, Less}
use Rattle.std.proofs.Common.{nat_cmp, is_lt, is_le}
use Rattle.std.specs.Ordering.{eq_by_cmp}
use Rattle.std.specs.List.{list_any, range_with_len}
use Rattle.std.specs.List.Sorted.{IsStrictlySortedBy}
use Rattle.std.specs.Option.{option_or}
use Rattle.std.specs.Cmp.{nat_cmp_total}
use Rattle.std.specs.FinMap.{FinMap, find, entries, keys, values, contains_key, get, len, retain_keys, from_sorted, is_sorted, same_map, nat_cmp-IsAntisymmetric}
use Rattle.std.specs.FinMap.{get-entries, get-from_entries, get-from_sorted}
use Rattle.std.specs.FinMap.Entries.{below_all}
use Rattle.std.proofs.lemmas.Bool.{cases_eq, lt-leb, not-true, not_from_false}
use Rattle.std.proofs.lemmas.List.FromFn.{length-range_with_len}
use Rattle.judy_model.specs.Keys.{word_order}
use Rattle.judy_model.specs.Counts.{count, keys_between}
use Rattle.judy_model.specs.TwoMaps.{union, intersection, difference, HaveSameKeys}
use Rattle.judy_model.specs.Ranges.{within, outside, words_between, empties_between, count_empty, zeroed, filled, flipped}
use Rattle.judy_model.proofs.lemmas.orders.WordOrder.{is_le_word, lt_word, le_word, le_from_word, less_word}
use Rattle.judy_model.proofs.lemmas.maps.Tests.{both, test_holds, both_true, first_true, second_true}
use Rattle.judy_model.proofs.lemmas.maps.Ascending.{Among, all_from_among, Among-list_any, list_any-from_among, Among-filter, among_from_filter, among_from_Contains, Contains-from_among}
use Rattle.judy_model.proofs.lemmas.maps.KeysLemmas.{keys-from_sorted, length-keys}
use Rattle.judy_model.proofs.lemmas.maps.ValuesLemmas.{value_from_All, All-values}
use Rattle.judy_model.proofs.lemmas.maps.TwoMapsLemmas.{find-append, get-kept, get-union, get-intersection, get-within}
use Rattle.judy_laws.proofs.lemmas.Parts.{halves, filter_alike, len-kept}
use Rattle.judy_laws.proofs.lemmas.Joins.{difference_answers, outside_answers, within_counts, len-intersection, union_counts, difference_counts, same_keys_count}

abbrev Words : Type 0
Words = FinMap word_order ℕ

-- ---- the words of a range

in_range : (start n word : ℕ) → Among (range_with_len start n) word → (start ≤ word) × (word < start + n)
in_range start zero word here = absurd here
in_range start (suc n) word here = ⊎_elim
    (λ e. (omega arith, omega arith))
    (λ later. let rest = in_range (start + 1) n word later in (omega (arith, rest.0), omega (arith, rest.1)))
    here

Among-range : (start n word : ℕ) → start ≤ word → word < start + n → Among (range_with_len start n) word
Among-range start zero word low high = let never : ⊥ = omega arith in absurd never
Among-range start (suc n) word low high = ⊎_elim (λ e. inl e) (λ other. inr (Among-range (start + 1) n word (omega arith) (omega arith))) (cases_eq word start)

pub among_between : (from to word : ℕ) → Among (words_between from to) word → (from ≤ word) × (word ≤ to)
unfolding words_between
among_between from to word here = let sides = in_range from (suc to - from) word here in (sides.0, omega (arith, sides.0, sides.1))

pub Among-between : (from to word : ℕ) → from ≤ word → word ≤ to → Among (words_between from to) word
unfolding words_between
Among-between from to word low high = Among-range from (suc to - from) word low (omega (arith, low, high))

pub between_are_those : (from to word : ℕ) → Contains (words_between from to) word ↔ ((from ≤ word) × (word ≤ to))
between_are_those from to word = (
  λ held. among_between from to word (among_from_Contains (words_between from to) word held),
  λ sides. Contains-from_among (words_between from to) word (Among-between from to word sides.0 sides.1),
)

ascending-range : (start n : ℕ) → IsStrictlySortedBy nat_cmp (range_with_len start n)
unfolding IsStrictlySortedBy
ascending-range start zero = tt
ascending-range start (suc n) = (
  all_from_among (λ other. nat_cmp start other ≡ Less) (range_with_len (start + 1) n) (λ word here. let rest = in_range (start + 1) n word here in less_word start word (omega (arith, rest.0))),
  ascending-range (start + 1) n,
)

pub between_ascends : (from to : ℕ) → IsStrictlySortedBy word_order (words_between from to)
unfolding words_between
between_ascends from to = ascending-range from (suc to - from)

pub length-between : (from to : ℕ) → length (words_between from to) ≡ suc to - from
unfolding words_between
length-between from to = length-range_with_len from (suc to - from)

-- ---- tests of a range

-- Whether a word is at or above the one and at or below the other.
abbrev between : ℕ → ℕ → ℕ → Bool
between from to word = is_le (word_order from word) && is_le (word_order word to)

-- Whether a list has a word.
abbrev among : List ℕ → ℕ → Bool
among words word = list_any (eq_by_cmp word_order word) words

pub is_between : (from to word : ℕ) → from ≤ word → word ≤ to → between from to word ≡ true
is_between from to word low high = both_true (is_le (word_order from word)) (is_le (word_order word to)) (le_word from word low) (le_word word to high)

pub isnt_between : (from to word : ℕ) → (word < from) ⊎ (to < word) → between from to word ≡ false
isnt_between from to word past = ⊎_elim
    (λ low. ap (λ b. b && is_le (word_order word to)) (is_le_word from word ∙ lt-leb from word low))
    (λ high. ap (λ b. is_le (word_order from word) && b) (is_le_word word to ∙ lt-leb word to high) ∙ never (is_le (word_order from word)))
    past
  where
    never : (b : Bool) → (b && false) ≡ false
    never true = refl
    never false = refl

alike : (a b : Bool) → (a ≡ true → b ≡ true) → (b ≡ true → a ≡ true) → a ≡ b
alike true b there back = sym (there refl)
alike false true there back = back refl
alike false false there back = refl

found : (words : List ℕ) (word : ℕ) → Among words word → among words word ≡ true
found = list_any-from_among nat_cmp_total nat_cmp-IsAntisymmetric

stands : (words : List ℕ) (word : ℕ) → among words word ≡ true → Among words word
stands = Among-list_any nat_cmp_total nat_cmp-IsAntisymmetric

among-between : (from to word : ℕ) → among (words_between from to) word ≡ between from to word
among-between from to word = alike (among (words_between from to) word) (between from to word)
    (λ here. let sides = among_between from to word (stands (words_between from to) word here) in is_between from to word sides.0 sides.1)
    (λ sides. found (words_between from to) word (Among-between from to word
    (le_from_word from word (first_true (is_le (word_order from word)) (is_le (word_order word to)) sides))
    (le_from_word word to (second_true (is_le (word_order from word)) (is_le (word_order word to)) sides))))

among-filter : (p : ℕ → Bool) (words : List ℕ) (word : ℕ) → among (filter p words) word ≡ (among words word && p word)
among-filter p words word = alike (among (filter p words) word) (among words word && p word)
    (λ here. let parts = among_from_filter p words word (stands (filter p words) word here) in both_true (among words word) (p word) (found words word parts.0) parts.1)
    (λ parts. found (filter p words) word (Among-filter p words word (stands words word (first_true (among words word) (p word) parts)) (second_true (among words word) (p word) parts)))

-- ---- words as keys of a set

find-zeroed : (words : List ℕ) (word : ℕ) → find word_order word (zeroed words) ≡ cond (among words word) (Some 0) None
find-zeroed [] word = refl
find-zeroed (first ∷ words) word =
    elim (eq_by_cmp word_order word first) as (λ b. cond b (Some 0) (find word_order word (zeroed words)) ≡ cond (b || among words word) (Some 0) None) [
      | true ↦ refl
      | false ↦ find-zeroed words word
    ]

below-range : (low start n : ℕ) → low < start → T (below_all word_order low (zeroed (range_with_len start n)))
below-range low start zero less = tt
below-range low start (suc n) less =
    both (is_lt (word_order low start)) (below_all word_order low (zeroed (range_with_len (start + 1) n)))
    (test_holds (is_lt (word_order low start)) (lt_word low start less))
    (below-range low (start + 1) n (omega (arith, less)))

sorted-range : (start n : ℕ) → T (is_sorted word_order (zeroed (range_with_len start n)))
sorted-range start zero = tt
sorted-range start (suc n) =
    both (below_all word_order start (zeroed (range_with_len (start + 1) n))) (is_sorted word_order (zeroed (range_with_len (start + 1) n)))
    (below-range start (start + 1) n (omega arith))
    (sorted-range (start + 1) n)

sorted-between : (from to : ℕ) → T (is_sorted word_order (zeroed (words_between from to)))
unfolding words_between
sorted-between from to = sorted-range from (suc to - from)

firsts-zeroed : (words : List ℕ) → map (λ (e : ℕ × ℕ). e.0) (zeroed words) ≡ words
firsts-zeroed [] = refl
firsts-zeroed (word ∷ words) = ap (λ rest. word ∷ rest) (firsts-zeroed words)

-- ---- the words of a range that are no keys

pub empties_are_those : (map : Words) (from to word : ℕ) → Contains (empties_between map from to) word ↔ (IsFalse (contains_key map word) × (from ≤ word) × (word ≤ to))
unfolding empties_between
empties_are_those map from to word =
    let empty = λ (other : ℕ). not (contains_key map other) in (
      λ held.
          let parts = among_from_filter empty (words_between from to) word (among_from_Contains (filter empty (words_between from to)) word held) in
          let sides = among_between from to word parts.0 in
          (not-true (contains_key map word) parts.1, sides.0, sides.1),
      λ facts. Contains-from_among (filter empty (words_between from to)) word
          (Among-filter empty (words_between from to) word (Among-between from to word facts.1 facts.2) (not_from_false (contains_key map word) facts.0)),
    )

same_there : (b held : Bool) (value : Option ℕ) → is_some value ≡ held → is_some (cond b value None) ≡ is_some {T = ℕ} (cond held (cond b (Some 0) None) None)
same_there true true value is = is
same_there true false value is = is
same_there false true value is = refl
same_there false false value is = refl

-- The words of a range that are keys are as many as the count.
keys_of_range : (map : Words) (from to : ℕ) → length (filter (contains_key map) (words_between from to)) ≡ count map from to
keys_of_range map from to =
    let range : Words = from_sorted (zeroed (words_between from to)) in
    let held : Words = retain_keys range (contains_key map) in
    let there = λ (word : ℕ). get-from_sorted word_order (zeroed (words_between from to)) word (sorted-between from to)
    ∙ find-zeroed (words_between from to) word ∙ ap (λ b. cond b (Some 0) None) (among-between from to word) in
    let equal = λ (word : ℕ). ap is_some (get-within nat_cmp_total nat_cmp-IsAntisymmetric map from to word)
    ∙ same_there (between from to word) (contains_key map word) (get map word) refl
    ∙ ap is_some (sym (get-kept nat_cmp_total nat_cmp-IsAntisymmetric range (contains_key map) word ∙ ap (λ (value : Option ℕ). cond (contains_key map word) value None) (there word))) in
    let same : HaveSameKeys (within map from to) held = λ word. (λ h. sym (equal word) ∙ h, λ h. equal word ∙ h) in
    sym (len-kept nat_cmp_total nat_cmp-IsAntisymmetric range (contains_key map)
    ∙ ap (λ words. length (filter (contains_key map) words)) (keys-from_sorted word_order (zeroed (words_between from to)) (sorted-between from to) ∙ firsts-zeroed (words_between from to)))
    ∙ sym (same_keys_count nat_cmp_total nat_cmp-IsAntisymmetric (within map from to) held same)
    ∙ within_counts nat_cmp_total nat_cmp-IsAntisymmetric map from to

pub empties_and_keys : (map : Words) (from to : ℕ) → count_empty map from to + count map from to ≡ suc to - from
unfolding count_empty empties_between
empties_and_keys map from to =
    let all = halves (contains_key map) (words_between from to) in
    let held = keys_of_range map from to in
    let long = length-between from to in
    omega (arith, all, held, long)

pub none_in_reverse : (map : Words) (from to : ℕ) → to < from → (count_empty map from to ≡ 0) × (count map from to ≡ 0)
none_in_reverse map from to reverse = let all = empties_and_keys map from to in (omega (arith, all, reverse), omega (arith, all, reverse))

-- ---- a range filled

get-filled : (set : Words) (from to word : ℕ) → get (filled set from to) word ≡ option_or (get set word) (cond (between from to word) (Some 0) None)
unfolding filled
get-filled set from to word =
    get-from_entries nat_cmp_total (entries set ++ zeroed (words_between from to)) word
    ∙ find-append word_order (entries set) (zeroed (words_between from to)) word
    ∙ (λ t. option_or (sym (get-entries set word) t) ((find-zeroed (words_between from to) word ∙ ap (λ b. cond b (Some 0) None) (among-between from to word)) t))

or_nothing : (value : Option ℕ) → option_or value None ≡ value
or_nothing None = refl
or_nothing (Some v) = refl

pub filled_within : (set : Words) (from to word : ℕ) → from ≤ word → word ≤ to → get (filled set from to) word ≡ option_or (get set word) (Some 0)
filled_within set from to word low high = get-filled set from to word ∙ ap (λ b. option_or (get set word) (cond b (Some 0) None)) (is_between from to word low high)

pub filled_elsewhere : (set : Words) (from to word : ℕ) → (word < from) ⊎ (to < word) → get (filled set from to) word ≡ get set word
filled_elsewhere set from to word past =
    get-filled set from to word ∙ ap (λ b. option_or (get set word) (cond b (Some 0) None)) (isnt_between from to word past) ∙ or_nothing (get set word)

-- The words of a range as a set.
abbrev range_set : ℕ → ℕ → Words
range_set from to = from_sorted (zeroed (words_between from to))

get-range : (from to word : ℕ) → get (range_set from to) word ≡ cond (between from to word) (Some 0) None
get-range from to word =
    get-from_sorted word_order (zeroed (words_between from to)) word (sorted-between from to)
    ∙ find-zeroed (words_between from to) word
    ∙ ap (λ b. cond b (Some 0) None) (among-between from to word)

len-range : (from to : ℕ) → len (range_set from to) ≡ suc to - from
len-range from to =
    sym (length-keys (range_set from to))
    ∙ ap length (keys-from_sorted word_order (zeroed (words_between from to)) (sorted-between from to) ∙ firsts-zeroed (words_between from to))
    ∙ length-between from to

there_or_none : (b : Bool) → is_some {T = ℕ} (cond b (Some 0) None) ≡ b
there_or_none true = refl
there_or_none false = refl

range_in_common : (set : Words) (from to : ℕ) → len (intersection set (range_set from to)) ≡ count set from to
unfolding count keys_between
range_in_common set from to =
    len-intersection nat_cmp_total nat_cmp-IsAntisymmetric set (range_set from to)
    ∙ ap length (filter_alike (contains_key (range_set from to)) (between from to) (keys set) (λ word. ap is_some (get-range from to word) ∙ there_or_none (between from to word)))

filled-union : (set : Words) (from to : ℕ) → filled set from to ≡ union set (range_set from to)
filled-union set from to = same_map nat_cmp_total nat_cmp-IsAntisymmetric (filled set from to) (union set (range_set from to)) (λ word.
    get-filled set from to word ∙ sym (get-union nat_cmp_total set (range_set from to) word ∙ ap (option_or (get set word)) (get-range from to word)))

-- A range filled adds its empty words.
pub filled_counts : (set : Words) (from to : ℕ) → len (filled set from to) ≡ len set + count_empty set from to
filled_counts set from to =
    let whole = ap len (filled-union set from to) in
    let all = union_counts nat_cmp_total nat_cmp-IsAntisymmetric set (range_set from to) in
    let common = range_in_common set from to in
    let long = len-range from to in
    let both = empties_and_keys set from to in
    omega (arith, whole, all, common, long, both)

-- ---- a range turned round

turned : (b held : Bool) (value : Option ℕ) → option_or (cond b None value) (cond (b && not held) (Some 0) None) ≡ cond b (cond held None (Some 0)) value
turned true true value = refl
turned true false value = refl
turned false held value = or_nothing value

get-flipped : (set : Words) (from to word : ℕ) → get (flipped set from to) word ≡ cond (between from to word) (cond (contains_key set word) None (Some 0)) (get set word)
unfolding flipped empties_between
get-flipped set from to word =
    let empty = λ (other : ℕ). not (contains_key set other) in
    get-from_entries nat_cmp_total (entries (outside set from to) ++ zeroed (filter empty (words_between from to))) word
    ∙ find-append word_order (entries (outside set from to)) (zeroed (filter empty (words_between from to))) word
    ∙ (λ t. option_or
    ((sym (get-entries (outside set from to) word) ∙ outside_answers nat_cmp_total nat_cmp-IsAntisymmetric set from to word) t)
    ((find-zeroed (filter empty (words_between from to)) word
    ∙ ap (λ b. cond b (Some 0) None) (among-filter empty (words_between from to) word ∙ ap (λ b. b && empty word) (among-between from to word))) t))
    ∙ turned (between from to word) (contains_key set word) (get set word)

pub flipped_within : (set : Words) (from to word : ℕ) → from ≤ word → word ≤ to → get (flipped set from to) word ≡ cond (contains_key set word) None (Some 0)
flipped_within set from to word low high =
    get-flipped set from to word ∙ ap (λ b. cond b (cond (contains_key set word) None (Some 0)) (get set word)) (is_between from to word low high)

pub flipped_elsewhere : (set : Words) (from to word : ℕ) → (word < from) ⊎ (to < word) → get (flipped set from to) word ≡ get set word
flipped_elsewhere set from to word past =
    get-flipped set from to word ∙ ap (λ b. cond b (cond (contains_key set word) None (Some 0)) (get set word)) (isnt_between from to word past)

without_range : (b : Bool) (ours : Option ℕ) → cond (is_some (cond b ours None)) None (option_or ours (cond b (Some 0) None)) ≡ cond b (cond (is_some ours) None (Some 0)) ours
without_range true None = refl
without_range true (Some v) = refl
without_range false None = refl
without_range false (Some v) = refl

flipped-difference : (set : Words) (from to : ℕ) → flipped set from to ≡ difference (filled set from to) (within set from to)
flipped-difference set from to = same_map nat_cmp_total nat_cmp-IsAntisymmetric (flipped set from to) (difference (filled set from to) (within set from to)) (λ word.
    get-flipped set from to word
    ∙ sym (difference_answers nat_cmp_total nat_cmp-IsAntisymmetric (filled set from to) (within set from to) word
    ∙ (λ t. cond (is_some (get-within nat_cmp_total nat_cmp-IsAntisymmetric set from to word t)) None (get-filled set from to word t))
    ∙ without_range (between from to word) (get set word)))

in_common : (b : Bool) (ours : Option ℕ) → is_some (cond (is_some (cond b ours None)) (option_or ours (cond b (Some 0) None)) None) ≡ is_some (cond b ours None)
in_common true None = refl
in_common true (Some v) = refl
in_common false None = refl
in_common false (Some v) = refl

len-in_common : (set : Words) (from to : ℕ) → len (intersection (filled set from to) (within set from to)) ≡ count set from to
len-in_common set from to =
    let common = intersection (filled set from to) (within set from to) in
    let there = get-within nat_cmp_total nat_cmp-IsAntisymmetric set from to in
    let equal = λ (word : ℕ). ap is_some (get-intersection nat_cmp_total nat_cmp-IsAntisymmetric (filled set from to) (within set from to) word
    ∙ (λ t. cond (is_some (there word t)) (get-filled set from to word t) None))
    ∙ in_common (between from to word) (get set word)
    ∙ ap is_some (sym (there word)) in
    let same : HaveSameKeys common (within set from to) = λ word. (λ h. sym (equal word) ∙ h, λ h. equal word ∙ h) in
    same_keys_count nat_cmp_total nat_cmp-IsAntisymmetric common (within set from to) same ∙ within_counts nat_cmp_total nat_cmp-IsAntisymmetric set from to

-- A range turned round has its empty words for its keys.
pub flipped_counts : (set : Words) (from to : ℕ) → len (flipped set from to) + count set from to ≡ len set + count_empty set from to
flipped_counts set from to =
    let whole = ap len (flipped-difference set from to) in
    let all = difference_counts nat_cmp_total nat_cmp-IsAntisymmetric (filled set from to) (within set from to) in
    let common = len-in_common set from to in
    let long = filled_counts set from to in
    omega (arith, whole, all, common, long)

-- ---- sets stay sets

-- Each value is 0.
abbrev Zeros : Words → Type 0
Zeros set = All (λ value. value ≡ 0) (values set)

zero_filled : (b : Bool) (ours : Option ℕ) (value : ℕ) → ((v : ℕ) → ours ≡ Some v → v ≡ 0) → option_or ours (cond b (Some 0) None) ≡ Some value → value ≡ 0
zero_filled b (Some v) value zeros is = zeros value is
zero_filled true None value zeros is = sym cc
zero_filled false None value zeros is = absurd cc

pub filled_set : (set : Words) (from to : ℕ) → Zeros set → Zeros (filled set from to)
filled_set set from to zeros = All-values (λ value. value ≡ 0) (filled set from to) (λ word value is.
    zero_filled (between from to word) (get set word) value (λ v has. value_from_All (λ value. value ≡ 0) set word v zeros has) (sym (get-filled set from to word) ∙ is))

zero_flipped : (b held : Bool) (ours : Option ℕ) (value : ℕ) → ((v : ℕ) → ours ≡ Some v → v ≡ 0) → cond b (cond held None (Some 0)) ours ≡ Some value → value ≡ 0
zero_flipped true true ours value zeros is = absurd cc
zero_flipped true false ours value zeros is = sym cc
zero_flipped false held ours value zeros is = zeros value is

pub flipped_set : (set : Words) (from to : ℕ) → Zeros set → Zeros (flipped set from to)
flipped_set set from to zeros = All-values (λ value. value ≡ 0) (flipped set from to) (λ word value is.
    zero_flipped (between from to word) (contains_key set word) (get set word) value (λ v has. value_from_All (λ value. value ≡ 0) set word v zeros has) (sym (get-flipped set from to word) ∙ is))

twice : (b : Bool) (ours : Option ℕ) → ((v : ℕ) → ours ≡ Some v → v ≡ 0) →
    cond b (cond (is_some (cond b (cond (is_some ours) None (Some 0)) ours)) None (Some 0)) (cond b (cond (is_some ours) None (Some 0)) ours) ≡ ours
twice true None zeros = refl
twice true (Some v) zeros = ap Some (sym (zeros v refl))
twice false ours zeros = refl

pub flipped_twice : (set : Words) (from to : ℕ) → Zeros set → flipped (flipped set from to) from to ≡ set
flipped_twice set from to zeros = same_map nat_cmp_total nat_cmp-IsAntisymmetric (flipped (flipped set from to) from to) set (λ word.
    get-flipped (flipped set from to) from to word
    ∙ ap (λ (one : Option ℕ). cond (between from to word) (cond (is_some one) None (Some 0)) one) (get-flipped set from to word)
    ∙ twice (between from to word) (get set word) (λ v has. value_from_All (λ value. value ≡ 0) set word v zeros has))
