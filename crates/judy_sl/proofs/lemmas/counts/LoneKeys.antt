-- A level behind which as many keys stand as it has entries: one behind each.
use Rattle.std.proofs.Common.{◌≡◌, ℕ, ◌+◌, ◌<◌, ◌≤◌, cond, Bool, false, true, nat_lt, List, [], ◌∷◌, length, slice_get, Option, Some, is_some, sym, ap, ◌∙◌, subst, arith, true≢false}
use Rattle.std.specs.List.{flat_map}
use Rattle.std.specs.Cmp.{nat_cmp_total}
use Rattle.std.specs.FinMap.{FinMap, nat_cmp-IsAntisymmetric, entries, entries_sorted, get, get-entries, find, len, len-entries}
use Rattle.std.proofs.lemmas.List.Concat.{length-flat_map}
use Rattle.std.proofs.lemmas.List.Sums.{sum_by-cons}
use Rattle.std.proofs.lemmas.Option.{none-some}
use Rattle.judy_model.specs.Keys.{word_order, byte_order}
use Rattle.judy_model.specs.Counts.{rank, by_count}
use Rattle.judy_model.proofs.lemmas.queries.RankLemmas.{rank_at, nth-slice_get}
use Rattle.judy_sums.specs.Pairs.{Pairs, sum_of, sum_below, part_below}
use Rattle.judy_sums.specs.Levels.{keys_below, extras, AreWeighed, part_of, part_len}
use Rattle.judy_sums.proofs.LevelCounts.{entries_below_is, keys_below_is, keys_are}
use Rattle.judy_sums.proofs.Parts.{each_found, nth_parts}
use Rattle.judy_sl.specs.World.{World, level, lookup}
use Rattle.judy_sl.specs.WorldInvariants.{IsWorld}
use Rattle.judy_sl.specs.Behind.{map_behind, entry_keys}
use Rattle.judy_sl.specs.Counted.{keys_behind}
use Rattle.judy_sl.specs.Nth.{IsSpotOf}
use Rattle.judy_sl.proofs.lemmas.pieces.PieceLemmas.{text_of_key, key_of_text}
use Rattle.judy_sl.proofs.lemmas.scans.ScanEnds.{text_behind, text_begins, begins}
use Rattle.judy_sl.proofs.lemmas.seats.Behind.{led_on, entries_behind}
use Rattle.judy_sl.proofs.lemmas.places.Nths.{place_at}

-- The list that has a pair for each entry.
abbrev pub each_leads : ℕ × ℕ → Bool
each_leads entry = true

-- A sum below a word is at most the whole one.
below_most : (pairs : Pairs) (word : ℕ) → sum_below pairs word ≤ sum_of pairs
below_most [] word = omega arith
below_most (pair ∷ rest) word =
    let part = sum_by-cons (part_below word) pair rest in
    let whole = sum_by-cons (λ (one : ℕ × ℕ). one.1) pair rest in
    let later = below_most rest word in
    let here : cond (nat_lt pair.0 word) pair.1 0 ≤ pair.1 = elim (nat_lt pair.0 word) as (λ b. cond b pair.1 0 ≤ pair.1) [ true ↦ omega arith | false ↦ omega arith ] in
    omega arith

-- Where a key is found among pairs there is one.
some_found : (key : List ℕ) (value : ℕ) (pairs : List (List ℕ × ℕ)) → find byte_order key pairs ≡ Some value → 1 ≤ length pairs
some_found key value [] found = absurd (none-some value found)
some_found key value (pair ∷ rest) found = omega arith

module _ {world : World} {behind : ℕ → List ℕ} (is : IsWorld world behind) (seat : ℕ) (words : FinMap word_order ℕ) (here : world seat ≡ level words) where
  -- Behind each entry stands a key.
  pub level_some : (piece at : ℕ) → get words piece ≡ Some at → 1 ≤ length (entry_keys world (piece, at))
  level_some piece at entry =
      let begun = begins is seat words piece here (ap (λ (found : Option ℕ). is_some found) entry) in
      let text = text_behind (behind seat) piece begun.rest begun.spelled.key (text_of_key begun.spelled.key begun.spelled.is_key) begun.spelled.is_key.is_bytes_key.within_limit
      begun.spelled.spells in
      let first = text_begins piece begun.rest text in
      some_found text.bytes begun.value (entry_keys world (piece, at)) (
      ap (λ word. find byte_order text.bytes (entry_keys world (word, at))) (sym first)
      ∙ led_on is seat words here text.bytes (key_of_text text.bytes text.text text.within) (Some at) (ap (get words) first ∙ entry)
      ∙ ap (lookup world seat) text.spells
      ∙ begun.found)

  pub level_weighed : AreWeighed each_leads (part_len (entry_keys world)) (entries words)
  level_weighed =
      each_found word_order nat_cmp_total nat_cmp-IsAntisymmetric (λ entry. (1 ≤ length (entry_keys world entry)) × (each_leads entry ≡ false → length (entry_keys world entry) ≡ 1))
      (entries words) (entries_sorted words)
      (λ piece at found. (level_some piece at (get-entries words piece ∙ found), λ never. absurd (true≢false never)))

  -- The keys behind the level are those behind its entries.
  pub level_keys : keys_behind world seat ≡ length (flat_map (entry_keys world) (entries words))
  level_keys = len-entries (map_behind world seat) ∙ ap length (entries_behind is seat words here)

  -- They are no fewer than its entries.
  pub level_long : len words ≤ keys_behind world seat
  level_long =
      let all = keys_are each_leads (part_len (entry_keys world)) (entries words) level_weighed in
      let sum = level_keys ∙ length-flat_map (entry_keys world) (entries words) in
      let long = len-entries words in
      omega arith

  module _ (alone : keys_behind world seat ≡ len words) where
    -- Below a word stand as many keys as entries.
    pub lone_below : (word : ℕ) → keys_below (part_len (entry_keys world)) (entries words) word ≡ rank words word
    lone_below word =
        let size = part_len (entry_keys world) in
        let all = keys_are each_leads size (entries words) level_weighed in
        let sum = level_keys ∙ length-flat_map (entry_keys world) (entries words) in
        let long = len-entries words in
        let below = keys_below_is each_leads size (entries words) word level_weighed in
        let entry = entries_below_is words word in
        let most = below_most (extras each_leads size (entries words)) word in
        omega arith

    -- So the entry at a place has the key at that place behind it.
    pub lone_spot : (place piece value : ℕ) → by_count words (place + 1) ≡ Some piece → get words piece ≡ Some value → IsSpotOf world words place (record { piece = piece; value = value; place = 0 })
    lone_spot place piece value at held =
        let own : part_of (entry_keys world) piece (find word_order piece (entries words)) ≡ entry_keys world (piece, value) = ap (part_of (entry_keys world) piece)
        (sym (get-entries words piece) ∙ held) in
        let some = level_some piece value held in
        let before = lone_below piece in
        let first = rank_at nat_cmp_total words place piece (sym (nth-slice_get nat_cmp_total words place) ∙ place_at words place piece at) in
        record {
          held = held;
          within = omega arith;
          same = ap (slice_get (flat_map (entry_keys world) (entries words))) (let e : place ≡ keys_below (part_len (entry_keys world)) (entries words) piece + 0 = omega arith in e)
              ∙ nth_parts (entry_keys world) piece 0 (entries words) (entries_sorted words) (subst (λ pairs. 0 < length pairs) (sym own) (omega arith))
              ∙ ap (λ pairs. slice_get pairs 0) own;
        }
