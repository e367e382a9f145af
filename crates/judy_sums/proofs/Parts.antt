-- Keys in parts, one after the other: each entry of a level has a part, and each key of a part tells the entry's word.
use Rattle.std.proofs.Common.{◌≡◌, ◌≢◌, ℕ, zero, suc, ◌+◌, ◌<◌, ◌≤◌, Bool, true, false, cond, nat_lt, T, List, [], ◌∷◌, ◌++◌, length, filter, slice_get, Option, Some, None, Less}
use Rattle.std.proofs.Common.{refl, sym, ap, ◌∙◌, subst, arith, ⊎_elim}
use Rattle.std.specs.declared.cmp.Ordering.{Ordering}
use Rattle.std.specs.Ordering.{is_lt, is_eq, eq_by_cmp}
use Rattle.std.specs.List.{flat_map, AllByRecursion}
use Rattle.std.specs.Option.{option_or}
use Rattle.std.specs.Cmp.{IsTotalOrder, nat_cmp_total, tied_itself}
use Rattle.std.specs.FinMap.{find, is_sorted, IsAntisymmetric, nat_cmp-IsAntisymmetric}
use Rattle.std.specs.FinMap.Entries.{below_all}
use Rattle.std.proofs.lemmas.Bool.{false_from_ne_true, cases_eq, cases_order, lt-ltb, le-ltb}
use Rattle.std.proofs.lemmas.List.{length-append}
use Rattle.std.proofs.lemmas.List.Elements.{filter-append}
use Rattle.std.proofs.lemmas.List.Sums.{sum_by-cons}
use Rattle.std.proofs.lemmas.Option.{none-some}
use Rattle.judy_model.specs.Keys.{word_order}
use Rattle.judy_model.proofs.lemmas.orders.Orders.{same_from_tie}
use Rattle.judy_model.proofs.lemmas.maps.Pairs.{first_below, rest_sorted}
use Rattle.judy_model.proofs.lemmas.maps.Tests.{both, left_of, right_of, is_Less}
use Rattle.judy_sums.specs.Pairs.{Pairs}
use Rattle.judy_sums.specs.Chunks.{AllFrom, Ascends}
use Rattle.judy_sums.specs.Levels.{keys_below, part_of, part_len, ArePartedBy}
use Rattle.judy_sums.proofs.PairLemmas.{head_from, from_less, find_none}

-- ---- the entry of a word

-- The first entry's word is found there, and every other word among the rest.
find_here : (entry : ℕ × ℕ) (rest : Pairs) → find word_order entry.0 (entry ∷ rest) ≡ Some entry.1
find_here entry rest = ap (λ b. cond b (Some entry.1) (find word_order entry.0 rest)) (ap is_eq (tied_itself nat_cmp_total entry.0))

find_same : (word : ℕ) (entry : ℕ × ℕ) (rest : Pairs) → word ≡ entry.0 → find word_order word (entry ∷ rest) ≡ Some entry.1
find_same word entry rest same = ap (λ w. find word_order w (entry ∷ rest)) same ∙ find_here entry rest

find_later : (word : ℕ) (entry : ℕ × ℕ) (rest : Pairs) → word ≢ entry.0 → find word_order word (entry ∷ rest) ≡ find word_order word rest
find_later word entry rest differ =
    ap (λ b. cond b (Some entry.1) (find word_order word rest)) (false_from_ne_true (eq_by_cmp word_order word entry.0) (λ tied. differ (same_from_tie nat_cmp-IsAntisymmetric word entry.0 tied)))

-- Behind the first entry all words are greater than one that is at most its word.
behind_first : (word : ℕ) (entry : ℕ × ℕ) (rest : Pairs) → Ascends (entry ∷ rest) → word ≤ entry.0 → AllFrom rest (suc word)
behind_first word entry rest ascend most = from_less rest (suc word) (suc entry.0) (omega arith) (head_from entry rest ascend)

-- ---- pairs one after the other

or_none : {X : Type 0} (found : Option X) → option_or found None ≡ found
or_none None = refl
or_none (Some value) = refl

module _ {K X : Type 0} (order : K → K → Ordering) where
  find-append : (front back : List (K × X)) (key : K) → find order key (front ++ back) ≡ option_or (find order key front) (find order key back)
  find-append [] back key = refl
  find-append (pair ∷ rest) back key =
      elim (eq_by_cmp order key pair.0) as (λ b. cond b (Some pair.1) (find order key (rest ++ back)) ≡ option_or (cond b (Some pair.1) (find order key rest)) (find order key back)) [
        | true ↦ refl
        | false ↦ find-append rest back key
      ]

  below-append : (key : K) (front back : List (K × X)) → T (below_all order key front) → T (below_all order key back) → T (below_all order key (front ++ back))
  below-append key [] back one other = other
  below-append key (pair ∷ rest) back one other =
      both (is_lt (order key pair.0)) (below_all order key (rest ++ back)) (left_of (is_lt (order key pair.0)) (below_all order key rest) one)
      (below-append key rest back (right_of (is_lt (order key pair.0)) (below_all order key rest) one) other)

  sorted-append : (front back : List (K × X)) → T (is_sorted order front) → T (is_sorted order back) → AllByRecursion (λ pair. T (below_all order pair.0 back)) front →
      T (is_sorted order (front ++ back))
  sorted-append [] back one other each = other
  sorted-append (pair ∷ rest) back one other each =
      both (below_all order pair.0 (rest ++ back)) (is_sorted order (rest ++ back)) (below-append pair.0 rest back (first_below order pair rest one) each.0)
      (sorted-append rest back (rest_sorted order pair rest one) other each.1)

module _ {K X : Type 0} (order : K → K → Ordering) (total : IsTotalOrder order) (same : IsAntisymmetric order) where
  find_below : (key : K) (pairs : List (K × X)) → T (below_all order key pairs) → find order key pairs ≡ None
  find_below key [] below = refl
  find_below key (pair ∷ rest) below =
      ap (λ r. cond (is_eq r) (Some pair.1) (find order key rest)) (is_Less (order key pair.0) (left_of (is_lt (order key pair.0)) (below_all order key rest) below))
      ∙ find_below key rest (right_of (is_lt (order key pair.0)) (below_all order key rest) below)

  -- What holds of each pair that is found holds of all pairs.
  pub each_found : (P : K × X → Type 0) (pairs : List (K × X)) → T (is_sorted order pairs) → ((key : K) (value : X) → find order key pairs ≡ Some value → P (key, value)) → AllByRecursion P pairs
  each_found P [] sorted each = tt
  each_found P (pair ∷ rest) sorted each = (
    each pair.0 pair.1 (ap (λ r. cond (is_eq r) (Some pair.1) (find order pair.0 rest)) (tied_itself total pair.0)),
    each_found P rest (rest_sorted order pair rest sorted) (λ key value found.
        each key value (elim (eq_by_cmp order key pair.0) as (λ b. eq_by_cmp order key pair.0 ≡ b → cond b (Some pair.1) (find order key rest) ≡ Some value) [
          | true ↦ λ tied. absurd (none-some value (sym (find_below pair.0 rest (first_below order pair rest sorted)) ∙ ap (λ k. find order k rest) (sym (same_from_tie same key pair.0 tied)) ∙ found))
          | false ↦ λ apart. found
        ] refl)),
  )

-- ---- what is found in the parts

module _ {K X : Type 0} (order : K → K → Ordering) (part : ℕ × ℕ → List (K × X)) where
  -- The key is in no part but its word's.
  abbrev pub OthersMiss : K → ℕ → Pairs → Type 0
  OthersMiss key word entries = AllByRecursion (λ (entry : ℕ × ℕ). entry.0 ≢ word → find order key (part entry) ≡ None) entries

  none_behind : (key : K) (word : ℕ) (rest : Pairs) → AllFrom rest (suc word) → OthersMiss key word rest → find order key (flat_map part rest) ≡ None
  none_behind key word [] above miss = refl
  none_behind key word (entry ∷ rest) above miss =
      let greater = above.0 in
      find-append order (part entry) (flat_map part rest) key
      ∙ ap (λ found. option_or found (find order key (flat_map part rest))) (miss.0 (λ same. let never : ⊥ = omega arith in never))
      ∙ none_behind key word rest above.1 miss.1

  -- So what is found in all parts is what is found in that one.
  pub find_parts : (key : K) (word : ℕ) (entries : Pairs) → Ascends entries → OthersMiss key word entries →
      find order key (flat_map part entries) ≡ find order key (part_of part word (find word_order word entries))
  find_parts key word [] ascend miss = refl
  find_parts key word (entry ∷ rest) ascend miss = find-append order (part entry) (flat_map part rest) key ∙ ⊎_elim
      (λ (same : word ≡ entry.0).
      ap (option_or (find order key (part entry))) (none_behind key word rest (behind_first word entry rest ascend (omega arith)) miss.1)
      ∙ or_none (find order key (part entry))
      ∙ ap (λ w. find order key (part (w, entry.1))) (sym same)
      ∙ sym (ap (λ (found : Option ℕ). find order key (part_of part word found)) (find_same word entry rest same)))
      (λ differ.
      ap (λ found. option_or found (find order key (flat_map part rest))) (miss.0 (λ same. differ (sym same)))
      ∙ find_parts key word rest (rest_sorted word_order entry rest ascend) miss.1
      ∙ sym (ap (λ (found : Option ℕ). find order key (part_of part word found)) (find_later word entry rest differ)))
      (cases_eq word entry.0)

  -- ---- their order

  module _ (Tells : ℕ → K → Type 0) (apart : (low high : ℕ) (one other : K) → low < high → Tells low one → Tells high other → order one other ≡ Less) where
    -- Each part is in order, and its keys tell its word.
    abbrev pub AreParts : Pairs → Type 0
    AreParts entries = AllByRecursion (λ (entry : ℕ × ℕ). T (is_sorted order (part entry)) × AllByRecursion (λ (pair : K × X). Tells entry.0 pair.0) (part entry)) entries

    below_part : (low high : ℕ) (key : K) → low < high → Tells low key → (pairs : List (K × X)) → AllByRecursion (λ (pair : K × X). Tells high pair.0) pairs → T (below_all order key pairs)
    below_part low high key less tells [] each = tt
    below_part low high key less tells (pair ∷ rest) each =
        both (is_lt (order key pair.0)) (below_all order key rest) (subst (λ r. T (is_lt r)) (sym (apart low high key pair.0 less tells each.0)) tt) (below_part low high key less tells rest each.1)

    below_parts : (low : ℕ) (key : K) → Tells low key → (rest : Pairs) → AllFrom rest (suc low) → AreParts rest → T (below_all order key (flat_map part rest))
    below_parts low key tells [] above are = tt
    below_parts low key tells (entry ∷ rest) above are =
        below-append order key (part entry) (flat_map part rest) (below_part low entry.0 key above.0 tells (part entry) are.0.1) (below_parts low key tells rest above.1 are.1)

    each_below : (low : ℕ) (rest : Pairs) → AllFrom rest (suc low) → AreParts rest → (pairs : List (K × X)) → AllByRecursion (λ (pair : K × X). Tells low pair.0) pairs →
        AllByRecursion (λ (pair : K × X). T (below_all order pair.0 (flat_map part rest))) pairs
    each_below low rest above are [] each = tt
    each_below low rest above are (pair ∷ pairs) each = (below_parts low pair.0 each.0 rest above are, each_below low rest above are pairs each.1)

    -- So all keys are in order.
    pub sorted_parts : (entries : Pairs) → Ascends entries → AreParts entries → T (is_sorted order (flat_map part entries))
    sorted_parts [] ascend are = tt
    sorted_parts (entry ∷ rest) ascend are =
        sorted-append order (part entry) (flat_map part rest) are.0.0 (sorted_parts rest (rest_sorted word_order entry rest ascend) are.1)
        (each_below entry.0 rest (head_from entry rest ascend) are.1 (part entry) are.0.1)

    module _ (same : IsAntisymmetric order) where
      -- A key that is found in a part tells its word.
      tells_found : (word : ℕ) (key : K) (pairs : List (K × X)) → AllByRecursion (λ (pair : K × X). Tells word pair.0) pairs → (value : X) → find order key pairs ≡ Some value → Tells word key
      tells_found word key [] each value is = absurd (none-some value is)
      tells_found word key (pair ∷ rest) each value is =
          elim (eq_by_cmp order key pair.0) as (λ b. eq_by_cmp order key pair.0 ≡ b → cond b (Some pair.1) (find order key rest) ≡ Some value → Tells word key) [
            | true ↦ λ tied e. subst (Tells word) (sym (same_from_tie same key pair.0 tied)) each.0
            | false ↦ λ differ e. tells_found word key rest each.1 value e
          ] refl is

      -- A key that is found in the parts tells a word.
      pub found_tells : (key : K) (entries : Pairs) → AreParts entries → (value : X) → find order key (flat_map part entries) ≡ Some value → (word : ℕ) × Tells word key
      found_tells key [] are value is = absurd (none-some value is)
      found_tells key (entry ∷ rest) are value is =
          elim (find order key (part entry)) as (λ found. find order key (part entry) ≡ found → option_or found (find order key (flat_map part rest)) ≡ Some value → (word : ℕ) × Tells word key) [
            | None ↦ λ here e. found_tells key rest are.1 value e
            | Some other ↦ λ here e. (entry.0, tells_found entry.0 key (part entry) are.0.1 other here)
          ] refl (sym (find-append order (part entry) (flat_map part rest) key) ∙ is)

      -- A key that tells one word alone is in no other's part.
      pub others_miss : (key : K) (word : ℕ) → ((other : ℕ) → Tells other key → other ≡ word) → (entries : Pairs) → AreParts entries → OthersMiss key word entries
      others_miss key word one [] are = tt
      others_miss key word one (entry ∷ rest) are = (
        λ differ. elim (find order key (part entry)) as (λ found. find order key (part entry) ≡ found → found ≡ None) [
          | None ↦ λ here. refl
          | Some value ↦ λ here. absurd (differ (one entry.0 (tells_found entry.0 key (part entry) are.0.1 value here)))
        ] refl,
        others_miss key word one rest are.1,
      )

-- ---- how many pass a test, and which stands at a place

-- A number that counts where a word is less.
counted_less : (entry : ℕ × ℕ) (word count : ℕ) → entry.0 < word → cond (nat_lt entry.0 word) count 0 ≡ count
counted_less entry word count less = ap (λ b. cond b count 0) (lt-ltb entry.0 word less)

counted_else : (entry : ℕ × ℕ) (word count : ℕ) → word ≤ entry.0 → cond (nat_lt entry.0 word) count 0 ≡ 0
counted_else entry word count most = ap (λ b. cond b count 0) (le-ltb entry.0 word most)

-- No keys stand below a word that is at most each.
none_below : (behind : ℕ × ℕ → ℕ) (word : ℕ) (entries : Pairs) → AllFrom entries word → keys_below behind entries word ≡ 0
none_below behind word [] from = refl
none_below behind word (entry ∷ rest) from =
    let sum = sum_by-cons (λ (one : ℕ × ℕ). cond (nat_lt one.0 word) (behind one) 0) entry rest in
    let here = counted_else entry word (behind entry) from.0 in
    let later = none_below behind word rest from.1 in
    omega arith

module _ {K : Type 0} (part : ℕ × ℕ → List K) where
  module _ (passes : K → Bool) where
    none_pass : (word : ℕ) (rest : Pairs) → AllFrom rest (suc word) → ArePartedBy part passes word rest → filter passes (flat_map part rest) ≡ []
    none_pass word [] above parted = refl
    none_pass word (entry ∷ rest) above parted =
        filter-append passes (part entry) (flat_map part rest) ∙ ap (λ front. front ++ filter passes (flat_map part rest)) (parted.0.1 above.0) ∙ none_pass word rest above.1 parted.1

    -- Those that pass are the keys below the word, and those of its own part that pass.
    pub count_parts : (word : ℕ) (entries : Pairs) → Ascends entries → ArePartedBy part passes word entries
        → length (filter passes (flat_map part entries)) ≡ keys_below (part_len part) entries word + length (filter passes (part_of part word (find word_order word entries)))
    count_parts word [] ascend parted = refl
    count_parts word (entry ∷ rest) ascend parted =
        let later = rest_sorted word_order entry rest ascend in
        let split = ap length (filter-append passes (part entry) (flat_map part rest)) ∙ length-append (filter passes (part entry)) (filter passes (flat_map part rest)) in
        let sum = sum_by-cons (λ (one : ℕ × ℕ). cond (nat_lt one.0 word) (part_len part one) 0) entry rest in
        ⊎_elim
        (λ (same : entry.0 ≡ word).
        let here = counted_else entry word (part_len part entry) (omega arith) in
        let above = behind_first word entry rest ascend (omega arith) in
        let none = ap length (none_pass word rest above parted.1) in
        let less = none_below (part_len part) word rest (from_less rest word (suc word) (omega arith) above) in
        let own = ap (λ (found : Option ℕ). length (filter passes (part_of part word found))) (find_same word entry rest (sym same)) ∙
        ap (λ w. length (filter passes (part (w, entry.1)))) (sym same) in
        omega arith)
        (λ apart. ⊎_elim
        (λ (less : entry.0 < word).
        let here = counted_less entry word (part_len part entry) less in
        let all = ap length (parted.0.0 less) in
        let rest_is = count_parts word rest later parted.1 in
        let own = ap (λ (found : Option ℕ). length (filter passes (part_of part word found))) (find_later word entry rest (λ same. let never : ⊥ = omega arith in never)) in
        omega arith)
        (λ (more : word < entry.0).
        let here = counted_else entry word (part_len part entry) (omega arith) in
        let above = behind_first word entry rest ascend (omega arith) in
        let first = ap length (parted.0.1 more) in
        let none = ap length (none_pass word rest above parted.1) in
        let less = none_below (part_len part) word rest (from_less rest word (suc word) (omega arith) above) in
        let own = ap (λ (found : Option ℕ). length (filter passes (part_of part word found))) (find_none (entry ∷ rest) word (more, above)) in
        omega arith)
        apart)
        (cases_order entry.0 word)

  -- A key stands as many places behind the keys below its word as it stands in its part.
  pub nth_parts : (word at : ℕ) (entries : Pairs) → Ascends entries → at < length (part_of part word (find word_order word entries))
      → slice_get (flat_map part entries) (keys_below (part_len part) entries word + at) ≡ slice_get (part_of part word (find word_order word entries)) at
  nth_parts word at [] ascend within = absurd (let never : ⊥ = omega arith in never)
  nth_parts word at (entry ∷ rest) ascend within =
      let sum = sum_by-cons (λ (one : ℕ × ℕ). cond (nat_lt one.0 word) (part_len part one) 0) entry rest in
      ⊎_elim
      (λ (same : entry.0 ≡ word).
      let here = counted_else entry word (part_len part entry) (omega arith) in
      let above = behind_first word entry rest ascend (omega arith) in
      let less = none_below (part_len part) word rest (from_less rest word (suc word) (omega arith) above) in
      let own = ap (part_of part word) (find_same word entry rest (sym same)) ∙ ap (λ w. part (w, entry.1)) (sym same) in
      let inside : at < length (part entry) = subst (λ keys. at < length keys) own within in
      ap (slice_get (part entry ++ flat_map part rest)) (let e : keys_below (part_len part) (entry ∷ rest) word + at ≡ at = omega arith in e)
      ∙ slice_get-front (part entry) (flat_map part rest) at inside
      ∙ ap (λ keys. slice_get keys at) (sym own))
      (λ apart. ⊎_elim
      (λ (less : entry.0 < word).
      let here = counted_less entry word (part_len part entry) less in
      let own = ap (part_of part word) (find_later word entry rest (λ same. let never : ⊥ = omega arith in never)) in
      ap (slice_get (part entry ++ flat_map part rest)) (let e : keys_below (part_len part) (entry ∷ rest) word + at ≡
      length (part entry) + (keys_below (part_len part) rest word + at) = omega arith in e)
      ∙ slice_get-back (part entry) (flat_map part rest) (keys_below (part_len part) rest word + at)
      ∙ nth_parts word at rest (rest_sorted word_order entry rest ascend) (subst (λ keys. at < length keys) own within)
      ∙ ap (λ keys. slice_get keys at) (sym own))
      (λ (more : word < entry.0).
      let own = ap (λ (found : Option ℕ). length (part_of part word found)) (find_none (entry ∷ rest) word (more, behind_first word entry rest ascend (omega arith))) in
      absurd (let never : ⊥ = omega arith in never))
      apart)
      (cases_order entry.0 word)
    where
      slice_get-front : (front back : List K) (place : ℕ) → place < length front → slice_get (front ++ back) place ≡ slice_get front place
      slice_get-front [] back place inside = absurd (let never : ⊥ = omega arith in never)
      slice_get-front (key ∷ front) back zero inside = refl
      slice_get-front (key ∷ front) back (suc place) inside = slice_get-front front back place (omega arith)

      slice_get-back : (front back : List K) (place : ℕ) → slice_get (front ++ back) (length front + place) ≡ slice_get back place
      slice_get-back [] back place = ap (slice_get back) (let e : 0 + place ≡ place = omega arith in e)
      slice_get-back (key ∷ front) back place =
          ap (slice_get ((key ∷ front) ++ back)) (let e : suc (length front) + place ≡ suc (length front + place) = omega arith in e) ∙ slice_get-back front back place
