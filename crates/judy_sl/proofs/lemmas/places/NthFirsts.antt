-- What the entry that is chosen among a level's tells of the key at a place.
use Rattle.std.proofs.Common.{◌≡◌, ℕ, zero, suc, ◌+◌, ◌-◌, ◌<◌, ◌≤◌, cond, nat_lt, ⊎_elim, List, [], ◌∷◌, ◌++◌, length, take, slice_get, Option, Some, unwrap_or, refl, sym, ap, ◌∙◌, subst, arith}
use Rattle.std.specs.List.{flat_map, sum_by}
use Rattle.std.specs.Option.{option_map}
use Rattle.std.specs.Cmp.{nat_cmp_total}
use Rattle.std.specs.FinMap.{FinMap, entries, entries_sorted, keys, get, get-entries, find, len, len-entries}
use Rattle.std.proofs.lemmas.Bool.{cases_lt, lt-ltb, le-ltb}
use Rattle.std.proofs.lemmas.List.{take_all, length-append}
use Rattle.std.proofs.lemmas.List.Concat.{length-flat_map}
use Rattle.std.proofs.lemmas.List.Sums.{sum_by-cons, sum_by-take-le}
use Rattle.std.proofs.lemmas.Option.{slice_get_cases, slice_get-map, same_Some}
use Rattle.judy_model.specs.Keys.{word_order, byte_order}
use Rattle.judy_model.specs.Counts.{nth, by_count}
use Rattle.judy_model.specs.WordBytes.{low_bytes}
use Rattle.judy_model.proofs.lemmas.orders.ByteLemmas.{length-low_bytes}
use Rattle.judy_model.proofs.lemmas.queries.Places.{length-filter-le}
use Rattle.judy_model.proofs.lemmas.queries.RankLemmas.{rank_at, nth-slice_get}
use Rattle.judy_model.proofs.lemmas.maps.TableLemmas.{byte_order_total}
use Rattle.judy_sums.specs.Pairs.{Pairs, sum_below}
use Rattle.judy_sums.specs.Chunks.{AllFrom, Ascends}
use Rattle.judy_sums.specs.Levels.{keys_below, part_of, part_len}
use Rattle.judy_sums.proofs.PairLemmas.{head_from, from_less}
use Rattle.judy_sums.proofs.Parts.{nth_parts}
use Rattle.judy_model.proofs.lemmas.maps.Pairs.{rest_sorted}
use Rattle.judy_sl.specs.declared.nth.Mark.{Mark}
use Rattle.judy_sl.specs.Pieces.{piece_bytes, IsFinal, IsInner}
use Rattle.judy_sl.specs.World.{World, level}
use Rattle.judy_sl.specs.WorldInvariants.{IsWorld}
use Rattle.judy_sl.specs.Behind.{map_behind, entry_keys}
use Rattle.judy_sl.specs.Counted.{keys_behind}
use Rattle.judy_sl.specs.Firsts.{AreFirsts}
use Rattle.judy_sl.specs.Nth.{before_entry, KeysFit, IsChosen, IsSpotOf, IsNthBehind}
use Rattle.judy_sl.proofs.lemmas.seats.Behind.{entries_behind, inner_key}
use Rattle.judy_sl.proofs.lemmas.counts.KeysTold.{final_keys, inner_keys, inner_count}
use Rattle.judy_sl.proofs.lemmas.counts.FirstSums.{list_keys_below}
use Rattle.judy_sl.proofs.lemmas.places.Nths.{place_at}
use Rattle.judy_sl.proofs.lemmas.places.NthReads.{all_of}
use Rattle.judy_sl.proofs.lemmas.places.NthWays.{all_at}

-- ---- the keys before the entry at a place, by its word and by the place

module _ (behind : ℕ × ℕ → ℕ) where
  none_from : (word : ℕ) (pairs : Pairs) → AllFrom pairs word → keys_below behind pairs word ≡ 0
  none_from word [] from = refl
  none_from word (entry ∷ rest) from =
      let sum = sum_by-cons (λ (one : ℕ × ℕ). cond (nat_lt one.0 word) (behind one) 0) entry rest in
      let here = ap (λ b. cond b (behind entry) 0) (le-ltb entry.0 word from.0) in
      let later = none_from word rest from.1 in
      omega arith

  from_at : (low place : ℕ) (entry : ℕ × ℕ) (pairs : Pairs) → AllFrom pairs low → slice_get pairs place ≡ Some entry → low ≤ entry.0
  from_at low place entry [] from at = cc
  from_at low zero entry (first ∷ rest) from at = let same = ap (λ (pair : ℕ × ℕ). pair.0) (same_Some first entry at) in let least = from.0 in omega arith
  from_at low (suc place) entry (first ∷ rest) from at = from_at low place entry rest from.1 at

  below_place : (pairs : Pairs) → Ascends pairs → (place : ℕ) (entry : ℕ × ℕ) → slice_get pairs place ≡ Some entry → keys_below behind pairs entry.0 ≡ sum_by behind (take place pairs)
  below_place [] ascend place entry at = cc
  below_place (first ∷ rest) ascend zero entry at =
      let same : first.0 ≡ entry.0 = ap (λ (pair : ℕ × ℕ). pair.0) (same_Some first entry at) in
      none_from entry.0 (first ∷ rest) (omega arith, from_less rest entry.0 (suc first.0) (omega arith) (head_from first rest ascend))
  below_place (first ∷ rest) ascend (suc place) entry at =
      let sum = sum_by-cons (λ (one : ℕ × ℕ). cond (nat_lt one.0 entry.0) (behind one) 0) first rest in
      let less = from_at (suc first.0) place entry rest (head_from first rest ascend) at in
      let here = ap (λ b. cond b (behind first) 0) (lt-ltb first.0 entry.0 (omega arith)) in
      let later = below_place rest (rest_sorted word_order first rest ascend) place entry at in
      let front = sum_by-cons behind first (take place rest) in
      omega arith

  front_more : (pairs : Pairs) (place : ℕ) (entry : ℕ × ℕ) → slice_get pairs place ≡ Some entry → sum_by behind (take (suc place) pairs) ≡ sum_by behind (take place pairs) + behind entry
  front_more [] place entry at = cc
  front_more (first ∷ rest) zero entry at =
      let same = ap behind (same_Some first entry at) in
      let front = sum_by-cons behind first (take 0 rest) in
      omega arith
  front_more (first ∷ rest) (suc place) entry at =
      let later = front_more rest place entry at in
      let front = sum_by-cons behind first (take place rest) in
      let more = sum_by-cons behind first (take (suc place) rest) in
      omega arith

some_part : {X : Type 0} (part : ℕ × ℕ → List X) (pairs : Pairs) → 0 < length (flat_map part pairs) → 1 ≤ length pairs
some_part part [] some = absurd (let never : ⊥ = omega arith in never)
some_part part (entry ∷ rest) some = omega arith

-- The key at a place, and its value.
pub nth_is : (all : FinMap byte_order ℕ) (place : ℕ) (key : List ℕ) (value : ℕ) → slice_get (entries all) place ≡ Some (key, value) → nth all place ≡ Some key
nth_is all place key value at = nth-slice_get byte_order_total all place ∙ slice_get-map (λ (pair : List ℕ × ℕ). pair.0) (entries all) place ∙ ap (option_map (λ (pair : List ℕ × ℕ). pair.0)) at

-- The bytes of a piece are at most eight.
pub piece_short : (piece : ℕ) → length (piece_bytes piece) ≤ 8
unfolding piece_bytes
piece_short piece = let most = length-filter-le (λ byte. nat_lt 0 byte) (low_bytes 8 piece) in let eight = length-low_bytes 8 piece in omega arith

-- ---- the entries of a level

module _ {W : World} {behind : ℕ → List ℕ} (is : IsWorld W behind) (seat : ℕ) (words : FinMap word_order ℕ) (here : W seat ≡ level words)
    (firsts : FinMap word_order ℕ) (are : AreFirsts (map_behind W seat) firsts) where
  -- How many keys stand behind an entry, and behind the first so many.
  abbrev size : ℕ × ℕ → ℕ
  size entry = part_len (entry_keys W) entry

  abbrev front : ℕ → ℕ
  front place = sum_by size (take place (entries words))

  all_keys : entries (map_behind W seat) ≡ flat_map (entry_keys W) (entries words)
  all_keys = entries_behind is seat words here

  how_many : len (map_behind W seat) ≡ sum_by size (entries words)
  how_many = len-entries (map_behind W seat) ∙ ap length all_keys ∙ length-flat_map (entry_keys W) (entries words)

  entry_at : (place : ℕ) → place < len words → (entry : ℕ × ℕ) × (slice_get (entries words) place ≡ Some entry)
  entry_at place within = ⊎_elim
      (λ some. (some.0, some.2))
      (λ past. let long = len-entries words in let never : ⊥ = omega (arith, long) in absurd never)
      (slice_get_cases (entries words) place).1

  word_at : (place : ℕ) (entry : ℕ × ℕ) → slice_get (entries words) place ≡ Some entry → slice_get (keys words) place ≡ Some entry.0
  word_at place entry at = slice_get-map (λ (pair : ℕ × ℕ). pair.0) (entries words) place ∙ ap (option_map (λ (pair : ℕ × ℕ). pair.0)) at

  -- What is added up before an entry are the keys behind those before it.
  before_is : (place : ℕ) → place < len words → before_entry words firsts place ≡ front place
  before_is place within =
      let found = entry_at place within in
      let word = word_at place found.0 found.1 in
      let same : unwrap_or (nth words place) 0 ≡ found.0.0 = ap (λ (one : Option ℕ). unwrap_or one 0) (nth-slice_get nat_cmp_total words place ∙ word) in
      let sums = ap (sum_below (entries firsts)) same in
      let first = rank_at nat_cmp_total words place found.0.0 word in
      let below = list_keys_below is seat words here firsts are found.0.0 in
      let up_to = below_place size (entries words) (entries_sorted words) place found.0 found.1 in
      omega arith

  pub before_first : 1 ≤ len words → before_entry words firsts 0 ≡ 0
  before_first some = before_is 0 (omega arith)

  pub before_fits : len (map_behind W seat) ≤ 4294967295 → (place : ℕ) → place < len words → before_entry words firsts place ≤ 4294967295
  before_fits few place within =
      let is_front = before_is place within in
      let most = sum_by-take-le size (entries words) place in
      let all = how_many in
      omega arith

  pub first_some : (place : ℕ) → place < len (map_behind W seat) → 1 ≤ len words
  first_some place within =
      let all = len-entries (map_behind W seat) in
      let parts = ap length all_keys in
      let long = len-entries words in
      let some = some_part (entry_keys W) (entries words) (omega arith) in
      omega arith

  -- ---- the one that is chosen

  module _ (place : ℕ) (inside : place < len (map_behind W seat)) (mark : Mark) (chosen : IsChosen words firsts place mark) (piece value : ℕ)
      (at : by_count words (mark.place + 1) ≡ Some piece) (held : get words piece ≡ Some value) where
    own_at : slice_get (entries words) mark.place ≡ Some (piece, value)
    own_at =
        let found = entry_at mark.place chosen.within in
        let word : found.0.0 ≡ piece = same_Some found.0.0 piece (sym (word_at mark.place found.0 found.1) ∙ sym (nth-slice_get nat_cmp_total words mark.place) ∙ place_at words mark.place piece at) in
        let there = all_at (λ (entry : ℕ × ℕ). get words entry.0 ≡ Some entry.1) (entries words) mark.place found.0 (all_of words) found.1 in
        let its : found.0.1 ≡ value = same_Some found.0.1 value (sym there ∙ ap (get words) word ∙ held) in
        found.1 ∙ (λ t. Some (word t, its t))

    own_front : mark.before ≡ front mark.place
    own_front = chosen.before ∙ before_is mark.place chosen.within

    -- The key stands behind it,
    own_within : place < mark.before + size (piece, value)
    own_within =
        let more = front_more size (entries words) mark.place (piece, value) own_at in
        let is_front = own_front in
        ⊎_elim
        (λ (next : suc mark.place < len words).
        let above = chosen.high next in
        let later = before_is (suc mark.place) next in
        omega arith)
        (λ (last : len words ≤ suc mark.place).
        let long = len-entries words in
        let whole = ap (λ (pairs : Pairs). sum_by size pairs) (take_all (suc mark.place) (entries words) (omega arith)) in
        let all = how_many in
        omega arith)
        (cases_lt (suc mark.place) (len words))

    pub own_left : place - mark.before < length (entry_keys W (piece, value))
    own_left = let within = own_within in let low = chosen.low in omega arith

    -- so many places behind those before it.
    own_part : slice_get (entries (map_behind W seat)) place ≡ slice_get (entry_keys W (piece, value)) (place - mark.before)
    own_part =
        let found : find word_order piece (entries words) ≡ Some value = sym (get-entries words piece) ∙ held in
        let part : part_of (entry_keys W) piece (find word_order piece (entries words)) ≡ entry_keys W (piece, value) = ap (part_of (entry_keys W) piece) found in
        let below = below_place size (entries words) (entries_sorted words) mark.place (piece, value) own_at in
        let is_front = own_front in
        let low = chosen.low in
        ap (λ pairs. slice_get pairs place) all_keys
        ∙ ap (slice_get (flat_map (entry_keys W) (entries words))) (let e : place ≡ keys_below size (entries words) piece + (place - mark.before) = omega arith in e)
        ∙ nth_parts (entry_keys W) piece (place - mark.before) (entries words) (entries_sorted words) (subst (λ pairs. place - mark.before < length pairs) (sym part) own_left)
        ∙ ap (λ pairs. slice_get pairs (place - mark.before)) part

    -- Where its piece is final, that is the key.
    pub own_final : IsFinal piece → slice_get (entries (map_behind W seat)) place ≡ Some (piece_bytes piece, value)
    own_final final =
        let one : List (List ℕ × ℕ) = (piece_bytes piece, value) ∷ [] in
        let only : entry_keys W (piece, value) ≡ one = final_keys W (piece, value) final in
        let within = own_left in
        let short = ap length only in
        let none : place - mark.before ≡ 0 = omega arith in
        own_part ∙ (λ t. slice_get (only t) (none t))

    -- Else the key is one behind its child.
    pub own_behind : IsInner piece → place - mark.before < keys_behind W (suc value)
    own_behind inner = let within = own_left in let many = inner_count W (piece, value) inner in omega arith

    pub own_fits : IsInner piece → (bytes : List ℕ) → bytes ≡ piece_bytes piece → KeysFit W (suc value) bytes
    own_fits inner bytes same rest kept found =
        let begun = inner_key is seat words here piece value held inner rest kept found in
        let within = begun.0.is_bytes_key.within_limit in
        let long = length-append (piece_bytes piece) rest in
        let its = ap length same in
        omega arith

    pub own_inner : IsInner piece → (bytes after : List ℕ) (result : Option ℕ) → bytes ≡ piece_bytes piece → (there : IsNthBehind W (suc value) (place - mark.before) bytes after result) →
        slice_get (entries (map_behind W seat)) place ≡ Some (after, there.value)
    own_inner inner bytes after result same there =
        let led : List ℕ × ℕ → List ℕ × ℕ = λ pair. (piece_bytes piece ++ pair.0, pair.1) in
        own_part
        ∙ ap (λ pairs. slice_get pairs (place - mark.before)) (inner_keys W (piece, value) inner)
        ∙ slice_get-map led (entries (map_behind W (suc value))) (place - mark.before)
        ∙ ap (option_map led) there.stands
        ∙ ap (λ key. Some (key, there.value)) (sym (there.bytes ∙ ap (λ one. one ++ there.rest) same))

    -- So it is the entry behind which the key stands.
    pub chosen_spot : IsSpotOf W words place (record { piece = piece; value = value; place = place - mark.before })
    chosen_spot = record {
      held = held;
      within = own_left;
      same = ap (λ pairs. slice_get pairs place) (sym all_keys) ∙ own_part;
    }
