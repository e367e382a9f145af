-- How many keys there are from one to another behind a level, and behind the entries of a level between two pieces.
use Rattle.std.proofs.Common.{◌≡◌, ℕ, suc, ◌+◌, ◌-◌, ◌%◌, ◌<◌, ◌≤◌, Bool, true, false, cond, ⊎_elim, List, [], ◌∷◌, ◌++◌, length, take, drop, Option, None, Some, is_some, is_lt}
use Rattle.std.proofs.Common.{refl, sym, ap, ◌∙◌, arith}
use Rattle.std.specs.Ordering.{eq_by_cmp, ordering_then}
use Rattle.std.specs.Int.{from_bool}
use Rattle.std.specs.List.{flat_map}
use Rattle.std.specs.Cmp.{nat_cmp_total}
use Rattle.std.specs.FinMap.{FinMap, nat_cmp-IsAntisymmetric, entries, get, get-entries, find, len, len-entries}
use Rattle.std.proofs.lemmas.Bool.{cases_lt, lt-ltb, le-ltb}
use Rattle.std.proofs.lemmas.List.{length-append, length-drop, take_all}
use Rattle.std.proofs.lemmas.Option.{none-some, same_Some}
use Rattle.judy_model.specs.Keys.{word_order, byte_order}
use Rattle.judy_model.specs.Counts.{rank}
use Rattle.judy_model.proofs.lemmas.orders.Orders.{same_from_tie}
use Rattle.judy_model.proofs.lemmas.queries.RankLemmas.{count_ranks, count_up_to-le-rank, rank-le}
use Rattle.judy_model.proofs.lemmas.maps.TableLemmas.{byte_order_total}
use Rattle.judy_model.proofs.lemmas.orders.WordOrder.{less_word, lt_word, le_word}
use Rattle.judy_sums.specs.Pairs.{Pairs}
use Rattle.judy_sums.specs.Chunks.{Ascends}
use Rattle.judy_sums.specs.Levels.{keys_below, part_len}
use Rattle.judy_sl.specs.Pieces.{piece_of, IsText, IsInner}
use Rattle.judy_sl.specs.World.{World, level}
use Rattle.judy_sl.specs.WorldInvariants.{IsWorld}
use Rattle.judy_sl.specs.Behind.{map_behind, entry_keys}
use Rattle.judy_sl.specs.Counted.{keys_behind, keys_behind_all, ranked, StandsWith}
use Rattle.judy_sl.specs.Ranks.{ranked_own, ranked_in}
use Rattle.judy_sl.proofs.lemmas.pieces.PieceLemmas.{piece-IsFinal, piece-IsInner, order-piece}
use Rattle.judy_sl.proofs.lemmas.counts.RankCounts.{words_none}
use Rattle.judy_sl.proofs.lemmas.counts.KeysTold.{inner_count}
use Rattle.judy_sl.proofs.lemmas.counts.LoneKeys.{level_keys}
use Rattle.judy_sl.proofs.lemmas.counts.EntryCounts.{below_past}
use Rattle.judy_sl.proofs.lemmas.places.PageCounts.{front_more, front_keys, rest_keys}
use Rattle.judy_sl.proofs.lemmas.counts.LevelRanks.{one_if, rank_absent, rank_final, rank_inner}

-- ---- between two pieces

-- No more pieces are less than one than are less than a greater one.
pub rank_rises : (words : FinMap word_order ℕ) (low high : ℕ) → low ≤ high → rank words low ≤ rank words high
rank_rises words low high rises = ⊎_elim
    (λ (less : low < high).
    let own = count_ranks nat_cmp_total words low low (le_word low low (omega arith)) in
    let next = count_up_to-le-rank nat_cmp_total words high low (lt_word low high less) in
    omega arith)
    (λ (most : high ≤ low). let same = ap (rank words) (let e : low ≡ high = omega arith in e) in omega arith)
    (cases_lt low high)

module _ (world : World) (words : FinMap word_order ℕ) where
  -- The keys behind the entries from one piece up to another are those below the second but not below the first.
  pub between_keys : (low high : ℕ) → rank words low ≤ rank words high
      → keys_below (part_len (entry_keys world)) (entries words) low + keys_behind_all world (take (rank words high - rank words low) (drop (rank words low) (entries words)))
      ≡ keys_below (part_len (entry_keys world)) (entries words) high
  between_keys low high rises =
      let before = front_keys world words low in
      let up_to = front_keys world words high in
      let more = front_more world (entries words) (rank words low) (rank words high) rises in
      omega arith

  -- Below 0 there are none.
  pub from_none : (count piece : ℕ) → keys_below (part_len (entry_keys world)) (entries words) 0 + count ≡ keys_below (part_len (entry_keys world)) (entries words) piece →
      count ≡ keys_below (part_len (entry_keys world)) (entries words) piece
  from_none count piece is =
      let front = front_keys world words 0 ∙ ap (λ n. keys_behind_all world (take n (entries words))) (words_none words) in
      let none : keys_behind_all world (take 0 (entries words)) ≡ 0 = refl in
      omega arith

  -- The keys behind the entries before a piece, as they are read from the first one on.
  pub keys_first : (piece : ℕ) → keys_behind_all world (take (rank words piece) (drop (rank words 0) (entries words))) ≡ keys_below (part_len (entry_keys world)) (entries words) piece
  keys_first piece =
      ap (λ n. keys_behind_all world (take (rank words piece) (drop n (entries words)))) (words_none words) ∙ sym (front_keys world words piece)

  -- Those behind the others, as they are read to the end.
  pub keys_last : (piece count : ℕ) → rank words piece + count ≡ len words
      → keys_below (part_len (entry_keys world)) (entries words) piece + keys_behind_all world (take count (drop (rank words piece) (entries words))) ≡ keys_behind_all world (entries words)
  keys_last piece count all =
      let long = len-entries words in
      let rest = length-drop (rank words piece) (entries words) in
      let whole = ap (keys_behind_all world) (take_all count (drop (rank words piece) (entries words)) (omega arith)) in
      let both = rest_keys world words piece in
      omega arith

-- How the keys behind a level are shared out by two pieces, before the first of which stand so many entries and before the second so many: those
-- of the first entries, of those between, and of the last.
pub record Shares (world : World) (words : FinMap word_order ℕ) (keys low high before up_to all : ℕ) : Type 0 where
  pub rises : before ≤ up_to
  pub within : up_to ≤ len words
  pub first : keys_behind_all world (take before (drop (rank words 0) (entries words))) ≡ keys_below (part_len (entry_keys world)) (entries words) low
  pub between : keys_below (part_len (entry_keys world)) (entries words) low + keys_behind_all world (take (up_to - before) (drop (rank words low) (entries words)))
      ≡ keys_below (part_len (entry_keys world)) (entries words) high
  pub last : keys_below (part_len (entry_keys world)) (entries words) high + keys_behind_all world (take (all - up_to) (drop (rank words high) (entries words))) ≡ keys

pub shares_of : {world : World} {behind : ℕ → List ℕ} → IsWorld world behind → {words : FinMap word_order ℕ} {keys : ℕ} → StandsWith world words keys → (low high : ℕ) →
    low ≤ high → {before up_to all : ℕ}
    → before ≡ rank words low → up_to ≡ rank words high → all ≡ len words → Shares world words keys low high before up_to all
shares_of {world} is {words} {keys} stands low high rising {before} {up_to} {all} first second count =
    let rises = rank_rises words low high rising in
    let most = rank-le nat_cmp_total words high in
    let between = between_keys world words low high rises in
    let share = ap (λ n. keys_behind_all world (take n (drop (rank words low) (entries words)))) (let e : up_to - before ≡ rank words high - rank words low = omega arith in e) in
    record {
      rises = omega arith;
      within = omega arith;
      first = ap (λ n. keys_behind_all world (take n (drop (rank words 0) (entries words)))) first ∙ keys_first world words low;
      between = omega arith;
      last = keys_last world words high (all - up_to) (omega arith) ∙ sym (level_keys is stands.seat words stands.is_level) ∙ sym stands.told;
    }

-- Before a word that a list of one pair has stands none.
pub none_before : (behind : ℕ × ℕ → ℕ) (word place : ℕ) (pairs : Pairs) → Ascends pairs → length pairs ≡ 1 → find word_order word pairs ≡ Some place → keys_below behind pairs word ≡ 0
none_before behind word place [] ascend one found = absurd (none-some place found)
none_before behind word place (entry ∷ rest) ascend one found =
    elim (eq_by_cmp word_order word entry.0) as (λ b. eq_by_cmp word_order word entry.0 ≡ b → cond b (Some entry.1) (find word_order word rest) ≡ Some place →
    keys_below behind (entry ∷ rest) word ≡ 0) [
      | true ↦ λ tied here. let same = same_from_tie nat_cmp-IsAntisymmetric word entry.0 tied in below_past behind word entry rest ascend (omega arith)
      | false ↦ λ apart there. absurd (nothing rest (omega arith) there)
    ] refl found
  where
    nothing : (rest : Pairs) → length rest ≡ 0 → find word_order word rest ≡ Some place → ⊥
    nothing [] none there = none-some place there
    nothing (other ∷ rest) none there = let never : ⊥ = omega arith in never

-- ---- behind an entry

-- No more keys stand behind an entry that is found than behind all.
part_most : {K : Type 0} (part : ℕ × ℕ → List K) (word place : ℕ) (pairs : Pairs) → find word_order word pairs ≡ Some place → length (part (word, place)) ≤ length (flat_map part pairs)
part_most part word place [] found = absurd (none-some place found)
part_most part word place (entry ∷ rest) found =
    elim (eq_by_cmp word_order word entry.0) as (λ b. eq_by_cmp word_order word entry.0 ≡ b → cond b (Some entry.1) (find word_order word rest) ≡ Some place →
    length (part (word, place)) ≤ length (part entry ++ flat_map part rest)) [
      | true ↦ λ tied here.
          let long = length-append (part entry) (flat_map part rest) in
          let own = ap (λ w. length (part (w, place))) (same_from_tie nat_cmp-IsAntisymmetric word entry.0 tied) ∙ ap (λ at. length (part (entry.0, at))) (sym (same_Some entry.1 place here)) in
          omega arith
      | false ↦ λ apart there.
          let long = length-append (part entry) (flat_map part rest) in
          let later = part_most part word place rest there in
          omega arith
    ] refl found

module _ {world : World} {behind : ℕ → List ℕ} (is : IsWorld world behind) (seat : ℕ) (words : FinMap word_order ℕ) (here : world seat ≡ level words) where
  -- So behind the child of an entry.
  pub child_most : (piece at : ℕ) → get words piece ≡ Some at → IsInner piece → keys_behind world (suc at) ≤ keys_behind world seat
  child_most piece at entry inner =
      let part = part_most (entry_keys world) piece at (entries words) (sym (get-entries words piece) ∙ entry) in
      let own = inner_count world (piece, at) inner in
      let all = level_keys is seat words here in
      omega arith

  -- ---- what counts behind a level

  -- It is what its entries tell.
  pub level_ranked : (itself : Bool) (key : List ℕ) → IsText key → ranked itself (map_behind world seat) key ≡ ranked_in world itself words key
  level_ranked itself key text = by (get words (piece_of key)) refl
    where
      by : (found : Option ℕ) → get words (piece_of key) ≡ found → ranked itself (map_behind world seat) key ≡
          keys_below (part_len (entry_keys world)) (entries words) (piece_of key) + ranked_own world itself found key
      by None none = let absent = rank_absent itself key text is seat words here none in omega arith
      by (Some at) there = ⊎_elim
          (λ (short : length key < 8).
          rank_final itself key text is seat words here short at there
          ∙ ap (λ b. keys_below (part_len (entry_keys world)) (entries words) (piece_of key) + cond b (one_if itself) (ranked itself (map_behind world (suc at)) (drop 8 key)))
          (sym (lt-ltb (length key) 8 short)))
          (λ (long : 8 ≤ length key).
          rank_inner itself key text is seat words here long at there
          ∙ ap (λ b. keys_below (part_len (entry_keys world)) (entries words) (piece_of key) + cond b (one_if itself) (ranked itself (map_behind world (suc at)) (drop 8 key)))
          (sym (le-ltb (length key) 8 long)))
          (cases_lt (length key) 8)

  module _ (from to : List ℕ) (low_text : IsText from) (high_text : IsText to) where
    -- Where the second has the lesser piece, there are no keys between them.
    pub none_falling : piece_of to < piece_of from → ranked true (map_behind world seat) to ≤ ranked false (map_behind world seat) from
    none_falling falls =
        count_up_to-le-rank byte_order_total (map_behind world seat) from to (
        ap is_lt (order-piece to from high_text low_text ∙ ap (λ r. ordering_then r (byte_order (drop 8 to) (drop 8 from))) (less_word (piece_of to) (piece_of from) falls)))

    -- ---- where both have the same piece

    module _ (same : piece_of from ≡ piece_of to) where
      -- Either both end in it or none does.
      pub both_long : 8 ≤ length from → 8 ≤ length to
      both_long long = ⊎_elim
          (λ (short : length to < 8). absurd (piece-IsInner from low_text long (ap (λ piece. piece % 256) same ∙ piece-IsFinal to high_text short)))
          (λ (more : 8 ≤ length to). more)
          (cases_lt (length to) 8)

      both_short : length from < 8 → length to < 8
      both_short short = ⊎_elim
          (λ (less : length to < 8). less)
          (λ (long : 8 ≤ length to). absurd (piece-IsInner to high_text long (sym (ap (λ piece. piece % 256) same) ∙ piece-IsFinal from low_text short)))
          (cases_lt (length to) 8)

      -- Where the level has no entry for it, there are no keys between them,
      pub none_shared : get words (piece_of from) ≡ None → ranked true (map_behind world seat) to - ranked false (map_behind world seat) from ≡ 0
      none_shared none =
          let high = rank_absent true to high_text is seat words here (ap (get words) (sym same) ∙ none) in
          let low = rank_absent false from low_text is seat words here none in
          let lesser = ap (keys_below (part_len (entry_keys world)) (entries words)) same in
          omega arith

      -- where they end there, the one that both are, if it is there,
      pub one_shared : length from < 8 → ranked true (map_behind world seat) to - ranked false (map_behind world seat) from ≡ from_bool (is_some (get words (piece_of from)))
      one_shared short = by (get words (piece_of from)) refl
        where
          by : (found : Option ℕ) → get words (piece_of from) ≡ found → ranked true (map_behind world seat) to - ranked false (map_behind world seat) from ≡ from_bool (is_some found)
          by None none = none_shared none
          by (Some value) there =
              let high = rank_final true to high_text is seat words here (both_short short) value (ap (get words) (sym same) ∙ there) in
              let low = rank_final false from low_text is seat words here short value there in
              let lesser = ap (keys_below (part_len (entry_keys world)) (entries words)) same in
              omega arith

      -- and else those behind the child of the entry.
      pub child_shared : 8 ≤ length from → (at : ℕ) → get words (piece_of from) ≡ Some at
          → ranked true (map_behind world seat) to - ranked false (map_behind world seat) from ≡ ranked true (map_behind world (suc at)) (drop 8 to) - ranked false
          (map_behind world (suc at)) (drop 8 from)
      child_shared long at there =
          let high = rank_inner true to high_text is seat words here (both_long long) at (ap (get words) (sym same) ∙ there) in
          let low = rank_inner false from low_text is seat words here long at there in
          let lesser = ap (keys_below (part_len (entry_keys world)) (entries words)) same in
          omega arith
