-- How many keys stand behind the entries of a level below a word: these entries, and what its list holds below it.
use Rattle.std.proofs.Common.{◌≡◌, ◌≢◌, ℕ, suc, ◌+◌, ◌-◌, ◌<◌, ◌≤◌, ◌==◌, Bool, true, false, cond, nat_lt, ◌&&◌, T, is_lt, List, [], ◌∷◌, ◌++◌, length, filter, Option, Some}
use Rattle.std.proofs.Common.{is_some, unwrap_or, refl, sym, ap, ◌∙◌, subst, arith, ⊎_elim, true≢false}
use Rattle.std.specs.Ordering.{is_eq, eq_by_cmp}
use Rattle.std.specs.List.{AllByRecursion, flat_map}
use Rattle.std.specs.Cmp.{nat_cmp_total, tied_itself}
use Rattle.std.specs.FinMap.{FinMap, nat_cmp-IsAntisymmetric, entries, entries_sorted, keys, get, get-entries, find, is_sorted, len}
use Rattle.std.specs.FinMap.Entries.{below_all}
use Rattle.std.proofs.lemmas.Bool.{cases_eq, cases_order, eq-eqb, ne_eqb, false_from_ne_true}
use Rattle.std.proofs.lemmas.List.{length-append}
use Rattle.std.proofs.lemmas.List.Elements.{filter-append}
use Rattle.std.proofs.lemmas.List.Sums.{sum_by-cons}
use Rattle.judy_model.specs.Keys.{word_order, byte_order}
use Rattle.judy_model.specs.Counts.{rank}
use Rattle.judy_model.proofs.lemmas.orders.Orders.{same_from_tie}
use Rattle.judy_model.proofs.lemmas.maps.Pairs.{rest_sorted}
use Rattle.judy_model.proofs.lemmas.queries.Places.{length-filter-le}
use Rattle.judy_model.proofs.lemmas.maps.KeysLemmas.{length-keys}
use Rattle.judy_sums.specs.Pairs.{Pairs, part_below, sum_below, number_in}
use Rattle.judy_sums.specs.Chunks.{AllFrom, Ascends}
use Rattle.judy_sums.specs.Levels.{keys_below, extras, part_of, part_len}
use Rattle.judy_sums.proofs.PairLemmas.{head_from, from_first, find_none}
use Rattle.judy_sums.proofs.LevelCounts.{entries_below_is, keys_below_is}
use Rattle.judy_sums.proofs.Parts.{AreParts}
use Rattle.judy_sl.specs.Pieces.{piece_of, IsInner}
use Rattle.judy_sl.specs.World.{World, level}
use Rattle.judy_sl.specs.WorldInvariants.{IsWorld}
use Rattle.judy_sl.specs.Behind.{map_behind, entry_keys}
use Rattle.judy_sl.specs.Counted.{keys_behind}
use Rattle.judy_sl.specs.Firsts.{beginning, AreFirsts}
use Rattle.judy_sl.proofs.lemmas.seats.Behind.{Begun, begun_apart, all_parts, entries_behind}
use Rattle.judy_sl.proofs.lemmas.counts.KeysTold.{inner_count}
use Rattle.judy_sl.proofs.lemmas.counts.LoneKeys.{each_leads, level_weighed}
use Rattle.judy_sl.proofs.lemmas.counts.LevelRanks.{keys_that}

-- ---- two lists with the same numbers have the same sums

abbrev SameNumbers : Pairs → Pairs → Type 0
SameNumbers one other = (word : ℕ) → number_in one word ≡ number_in other word

number_here : (pair : ℕ × ℕ) (rest : Pairs) → number_in (pair ∷ rest) pair.0 ≡ pair.1
number_here pair rest = ap (λ r. unwrap_or (cond (is_eq r) (Some pair.1) (find word_order pair.0 rest)) 0) (tied_itself nat_cmp_total pair.0)

number_above : (pairs : Pairs) (word : ℕ) → AllFrom pairs (suc word) → number_in pairs word ≡ 0
number_above pairs word all = ap (λ (found : Option ℕ). unwrap_or found 0) (find_none pairs word all)

number_later : (pair : ℕ × ℕ) (rest : Pairs) (word : ℕ) → word ≢ pair.0 → number_in (pair ∷ rest) word ≡ number_in rest word
number_later pair rest word apart =
    ap (λ b. unwrap_or (cond b (Some pair.1) (find word_order word rest)) 0) (false_from_ne_true (eq_by_cmp word_order word pair.0)
    (λ tied. apart (same_from_tie nat_cmp-IsAntisymmetric word pair.0 tied)))

-- Without its first pair a list holds nothing for that word, and the same for the others.
number_rest : (pair : ℕ × ℕ) (rest : Pairs) → Ascends (pair ∷ rest) → (word : ℕ) → number_in rest word ≡ cond (word == pair.0) 0 (number_in (pair ∷ rest) word)
number_rest pair rest ascend word = ⊎_elim
    (λ (same : word ≡ pair.0).
    number_above rest word (subst (λ low. AllFrom rest (suc low)) (sym same) (head_from pair rest ascend))
    ∙ sym (ap (λ b. cond b 0 (number_in (pair ∷ rest) word)) (eq-eqb word pair.0 same)))
    (λ apart. sym (number_later pair rest word apart) ∙ sym (ap (λ b. cond b 0 (number_in (pair ∷ rest) word)) (ne_eqb word pair.0 apart)))
    (cases_eq word pair.0)

-- A first pair with a word that the other list lacks may be left out.
number_skip : (pair : ℕ × ℕ) (rest other : Pairs) → Ascends (pair ∷ rest) → number_in other pair.0 ≡ 0 → SameNumbers (pair ∷ rest) other → SameNumbers rest other
number_skip pair rest other ascend none same word = number_rest pair rest ascend word ∙ ⊎_elim
    (λ (here : word ≡ pair.0). ap (λ b. cond b 0 (number_in (pair ∷ rest) word)) (eq-eqb word pair.0 here) ∙ sym none ∙ ap (number_in other) (sym here))
    (λ apart. ap (λ b. cond b 0 (number_in (pair ∷ rest) word)) (ne_eqb word pair.0 apart) ∙ same word)
    (cases_eq word pair.0)

nothing : (test : Bool) (number : ℕ) → number ≡ 0 → cond test number 0 ≡ 0
nothing true number none = none
nothing false number none = refl

nothing_else : (test : Bool) (number : ℕ) → number ≡ 0 → cond test 0 number ≡ 0
nothing_else true number none = refl
nothing_else false number none = none

module _ (limit : ℕ) where
  sum_first : (pair : ℕ × ℕ) (rest : Pairs) → sum_below (pair ∷ rest) limit ≡ cond (nat_lt pair.0 limit) pair.1 0 + sum_below rest limit
  sum_first pair rest = sum_by-cons (part_below limit) pair rest

  sum_none : (pairs : Pairs) → Ascends pairs → SameNumbers pairs [] → sum_below pairs limit ≡ 0
  sum_none [] ascend none = refl
  sum_none (pair ∷ rest) ascend none =
      let sum = sum_first pair rest in
      let here = nothing (nat_lt pair.0 limit) pair.1 (sym (number_here pair rest) ∙ none pair.0) in
      let later = sum_none rest (rest_sorted word_order pair rest ascend) (λ word. number_rest pair rest ascend word ∙ nothing_else (word == pair.0) (number_in (pair ∷ rest) word) (none word)) in
      omega arith

  within : (first : ℕ × ℕ) (rest : Pairs) → Ascends (first ∷ rest) → ((other : Pairs) → Ascends other → SameNumbers rest other → sum_below rest limit ≡ sum_below other limit)
      → (other : Pairs) → Ascends other → SameNumbers (first ∷ rest) other → sum_below (first ∷ rest) limit ≡ sum_below other limit
  within first rest ascend later [] rising same = sum_none (first ∷ rest) ascend same
  within first rest ascend later (pair ∷ pairs) rising same =
      let one = sum_first first rest in
      let two = sum_first pair pairs in
      let rises = rest_sorted word_order pair pairs rising in
      ⊎_elim
      (λ (tied : first.0 ≡ pair.0).
      let number : first.1 ≡ pair.1 = sym (number_here first rest) ∙ same first.0 ∙ ap (number_in (pair ∷ pairs)) tied ∙ number_here pair pairs in
      let here : cond (nat_lt first.0 limit) first.1 0 ≡ cond (nat_lt pair.0 limit) pair.1 0 = (λ t. cond (nat_lt (tied t) limit) (number t) 0) in
      let on = later pairs rises (λ word. number_rest first rest ascend word ∙ (λ t. cond (word == tied t) 0 (same word t)) ∙ sym (number_rest pair pairs rising word)) in
      omega arith)
      (λ apart. ⊎_elim
      (λ (less : first.0 < pair.0).
      let none = number_above (pair ∷ pairs) first.0 (from_first pair pairs (suc first.0) rising (omega arith)) in
      let here = nothing (nat_lt first.0 limit) first.1 (sym (number_here first rest) ∙ same first.0 ∙ none) in
      let on = later (pair ∷ pairs) rising (number_skip first rest (pair ∷ pairs) ascend none same) in
      omega arith)
      (λ (more : pair.0 < first.0).
      let none = number_above (first ∷ rest) pair.0 (from_first first rest (suc pair.0) ascend (omega arith)) in
      let here = nothing (nat_lt pair.0 limit) pair.1 (sym (number_here pair pairs) ∙ sym (same pair.0) ∙ none) in
      let skip = number_skip pair pairs (first ∷ rest) rising none (λ word. sym (same word)) in
      let on = within first rest ascend later pairs rises (λ word. sym (skip word)) in
      omega arith)
      apart)
      (cases_order first.0 pair.0)

  same_sums : (one : Pairs) → Ascends one → (other : Pairs) → Ascends other → SameNumbers one other → sum_below one limit ≡ sum_below other limit
  same_sums [] ascend other rising same = sym (sum_none other rising (λ word. sym (same word)))
  same_sums (first ∷ rest) ascend other rising same = within first rest ascend (λ more rises numbers. same_sums rest (rest_sorted word_order first rest ascend) more rises numbers) other rising same

-- ---- the list that has a pair for each entry

module _ {K : Type 0} (part : ℕ × ℕ → List K) where
  extras_number : (level : Pairs) (word : ℕ) → number_in (extras each_leads (part_len part) level) word ≡ length (part_of part word (find word_order word level)) - 1
  extras_number [] word = refl
  extras_number (entry ∷ rest) word =
      elim (eq_by_cmp word_order word entry.0) as (λ b. eq_by_cmp word_order word entry.0 ≡ b → unwrap_or
      (cond b (Some (part_len part entry - 1)) (find word_order word (extras each_leads (part_len part) rest))) 0 ≡
      length (part_of part word (cond b (Some entry.1) (find word_order word rest))) - 1) [
        | true ↦ λ tied. ap (λ w. length (part (w, entry.1)) - 1) (sym (same_from_tie nat_cmp-IsAntisymmetric word entry.0 tied))
        | false ↦ λ apart. extras_number rest word
      ] refl

  extras_below : (word : ℕ) (level : Pairs) → below_all word_order word (extras each_leads (part_len part) level) ≡ below_all word_order word level
  extras_below word [] = refl
  extras_below word (entry ∷ rest) = ap (λ b. is_lt (word_order word entry.0) && b) (extras_below word rest)

  extras_sorted : (level : Pairs) → is_sorted word_order (extras each_leads (part_len part) level) ≡ is_sorted word_order level
  extras_sorted [] = refl
  extras_sorted (entry ∷ rest) = (λ t. extras_below entry.0 rest t && extras_sorted rest t)

-- ---- the keys that begin with a piece

module _ (piece : ℕ) where
  abbrev begin_so : List ℕ × ℕ → Bool
  begin_so pair = piece_of pair.0 == piece

  all_begin : (pairs : List (List ℕ × ℕ)) → AllByRecursion (λ (pair : List ℕ × ℕ). Begun piece pair.0) pairs → filter begin_so pairs ≡ pairs
  all_begin [] begun = refl
  all_begin (pair ∷ rest) begun =
      ap (λ b. cond b (pair ∷ filter begin_so rest) (filter begin_so rest)) (eq-eqb (piece_of pair.0) piece begun.0.1) ∙ ap (λ pairs. pair ∷ pairs) (all_begin rest begun.1)

  none_begin : (word : ℕ) → word ≢ piece → (pairs : List (List ℕ × ℕ)) → AllByRecursion (λ (pair : List ℕ × ℕ). Begun word pair.0) pairs → filter begin_so pairs ≡ []
  none_begin word apart [] begun = refl
  none_begin word apart (pair ∷ rest) begun =
      ap (λ b. cond b (pair ∷ filter begin_so rest) (filter begin_so rest)) (ne_eqb (piece_of pair.0) piece (λ same. apart (sym begun.0.1 ∙ same))) ∙ none_begin word apart rest begun.1

  module _ (world : World) where
    above_none : (level : Pairs) → AllFrom level (suc piece) → AreParts byte_order (entry_keys world) Begun begun_apart level → filter begin_so (flat_map (entry_keys world) level) ≡ []
    above_none [] above are = refl
    above_none (entry ∷ rest) above are =
        let more = above.0 in
        filter-append begin_so (entry_keys world entry) (flat_map (entry_keys world) rest)
        ∙ ap (λ front. front ++ filter begin_so (flat_map (entry_keys world) rest)) (none_begin entry.0 (λ same. omega arith) (entry_keys world entry) are.0.1)
        ∙ above_none rest above.1 are.1

    own_keys : (level : Pairs) → Ascends level → AreParts byte_order (entry_keys world) Begun begun_apart level
        → length (filter begin_so (flat_map (entry_keys world) level)) ≡ length (part_of (entry_keys world) piece (find word_order piece level))
    own_keys [] ascend are = refl
    own_keys (entry ∷ rest) ascend are =
        let split = ap length (filter-append begin_so (entry_keys world entry) (flat_map (entry_keys world) rest)) ∙
        length-append (filter begin_so (entry_keys world entry)) (filter begin_so (flat_map (entry_keys world) rest)) in
        ⊎_elim
        (λ (same : piece ≡ entry.0).
        let all = ap length (all_begin (entry_keys world entry) (subst (λ word. AllByRecursion (λ (pair : List ℕ × ℕ). Begun word pair.0) (entry_keys world entry)) (sym same) are.0.1)) in
        let none = ap length (above_none rest (subst (λ low. AllFrom rest (suc low)) (sym same) (head_from entry rest ascend)) are.1) in
        let own = ap (λ b. length (part_of (entry_keys world) piece (cond b (Some entry.1) (find word_order piece rest))))
        (ap (eq_by_cmp word_order piece) (sym same) ∙ ap is_eq (tied_itself nat_cmp_total piece)) ∙ ap (λ word. length (entry_keys world (word, entry.1))) same in
        omega arith)
        (λ apart.
        let none = ap length (none_begin entry.0 (λ same. apart (sym same)) (entry_keys world entry) are.0.1) in
        let later = own_keys rest (rest_sorted word_order entry rest ascend) are.1 in
        let own = ap (λ b. length (part_of (entry_keys world) piece (cond b (Some entry.1) (find word_order piece rest))))
        (false_from_ne_true (eq_by_cmp word_order piece entry.0) (λ tied. apart (same_from_tie nat_cmp-IsAntisymmetric piece entry.0 tied))) in
        omega arith)
        (cases_eq piece entry.0)

-- ---- a level and its list

module _ {world : World} {behind : ℕ → List ℕ} (is : IsWorld world behind) (seat : ℕ) (words : FinMap word_order ℕ) (here : world seat ≡ level words) where
  -- The keys that begin with a piece are those behind its entry.
  pub beginning_part : (piece : ℕ) → beginning (map_behind world seat) piece ≡ length (part_of (entry_keys world) piece (get words piece))
  unfolding beginning
  beginning_part piece =
      keys_that (λ key. piece_of key == piece) (entries (map_behind world seat))
      ∙ ap (λ pairs. length (filter (begin_so piece) pairs)) (entries_behind is seat words here)
      ∙ own_keys piece world (entries words) (entries_sorted words) (all_parts is seat words here)
      ∙ ap (λ (found : Option ℕ). length (part_of (entry_keys world) piece found)) (sym (get-entries words piece))

  -- No more keys than there are begin with a piece.
  pub begins_most : (piece : ℕ) → beginning (map_behind world seat) piece ≤ len (map_behind world seat)
  unfolding beginning
  begins_most piece =
      let some = length-filter-le (λ key. piece_of key == piece) (keys (map_behind world seat)) in
      let all = length-keys (map_behind world seat) in
      omega arith

  -- So no more stand behind a child of the level.
  pub behind_most : (piece at : ℕ) → IsInner piece → get words piece ≡ Some at → keys_behind world (suc at) ≤ len (map_behind world seat)
  behind_most piece at inner there =
      let most = begins_most piece in
      let part = beginning_part piece ∙ ap (λ (found : Option ℕ). length (part_of (entry_keys world) piece found)) there in
      let behind = inner_count world (piece, at) inner in
      omega arith

  module _ (list : FinMap word_order ℕ) (are : AreFirsts (map_behind world seat) list) where
    same_numbers : SameNumbers (extras each_leads (part_len (entry_keys world)) (entries words)) (entries list)
    same_numbers word =
        extras_number (entry_keys world) (entries words) word
        ∙ ap (λ (found : Option ℕ). length (part_of (entry_keys world) word found) - 1) (sym (get-entries words word))
        ∙ ap (λ n. n - 1) (sym (beginning_part word))
        ∙ sym (are.numbers word)
        ∙ ap (λ (found : Option ℕ). unwrap_or found 0) (get-entries list word)

    -- Below a word stand as many keys as entries, and what the list holds below it.
    pub list_keys_below : (word : ℕ) → keys_below (part_len (entry_keys world)) (entries words) word ≡ rank words word + sum_below (entries list) word
    list_keys_below word =
        let part = entry_keys world in
        let all = keys_below_is each_leads (part_len part) (entries words) word (level_weighed is seat words here) in
        let entry = entries_below_is words word in
        let sums = same_sums word (extras each_leads (part_len part) (entries words)) (subst T (sym (extras_sorted part (entries words))) (entries_sorted words))
        (entries list) (entries_sorted list) same_numbers in
        omega arith
