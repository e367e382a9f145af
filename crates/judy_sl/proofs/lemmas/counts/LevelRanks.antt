-- How many keys behind a seat are less than the rest of a key, or, where that itself counts, not above it, by what stands at the seat.
use Rattle.std.proofs.Common.{◌≡◌, ℕ, suc, ◌+◌, ◌<◌, ◌≤◌, Bool, true, false, cond, List, [], ◌∷◌, ◌++◌, map, length, drop, filter, Option, None, Some, Equal, Greater, refl, sym}
use Rattle.std.proofs.Common.{ap, ◌∙◌, arith, is_lt, is_le}
use Rattle.std.specs.Ordering.{ordering_then}
use Rattle.std.specs.Int.{from_bool}
use Rattle.std.specs.List.{AllByRecursion}
use Rattle.std.specs.Cmp.{nat_cmp_is, tied_itself}
use Rattle.std.specs.FinMap.{FinMap, entries, entries_sorted, get, get-entries, len}
use Rattle.std.proofs.lemmas.List.{take_all, take-append-drop}
use Rattle.judy_model.specs.Keys.{word_order, byte_order}
use Rattle.judy_model.specs.Counts.{rank, count_up_to}
use Rattle.judy_model.proofs.lemmas.queries.RankLemmas.{rank-le, count_up_to-le}
use Rattle.judy_model.proofs.lemmas.maps.TableLemmas.{byte_order_total}
use Rattle.judy_model.proofs.lemmas.orders.WordOrder.{less_word}
use Rattle.judy_sums.specs.Pairs.{Pairs}
use Rattle.judy_sums.specs.Levels.{keys_below, part_of, part_len, ArePartedBy}
use Rattle.judy_sums.proofs.Parts.{AreParts, count_parts}
use Rattle.judy_sl.specs.declared.arena.Arena.{Arena}
use Rattle.judy_sl.specs.Pieces.{piece_of, pieces, piece_bytes, IsText}
use Rattle.judy_sl.specs.World.{World, tail, level}
use Rattle.judy_sl.specs.WorldInvariants.{IsWorld}
use Rattle.judy_sl.specs.Arenas.{world_of, IsArena}
use Rattle.judy_sl.specs.Behind.{map_behind, entry_keys}
use Rattle.judy_sl.specs.Counted.{ranked}
use Rattle.judy_sl.specs.Scans.{is_beyond}
use Rattle.judy_sl.proofs.lemmas.scans.ScanLevels.{beyond_less, beyond_greater}
use Rattle.judy_sl.proofs.lemmas.pieces.PieceLemmas.{text_of_key, piece-IsFinal, piece-IsInner, order-piece}
use Rattle.judy_sl.proofs.lemmas.pieces.PieceBytes.{bytes-piece}
use Rattle.judy_sl.proofs.lemmas.seats.Behind.{order-front, Begun, begun_apart, all_parts, entries_behind}
use Rattle.judy_sl.proofs.lemmas.counts.KeysTold.{tail_entries, led_pairs, final_keys, inner_keys}

-- ---- what counts

-- What is less does in either case, what is above in none, and the key itself where that is asked.
beyond_same : (itself : Bool) → is_beyond itself Equal ≡ itself
beyond_same true = refl
beyond_same false = refl

-- No more keys count than there are.
pub ranked_most : (itself : Bool) (all : FinMap byte_order ℕ) (key : List ℕ) → ranked itself all key ≤ len all
ranked_most true all key = count_up_to-le byte_order_total all key
ranked_most false all key = rank-le byte_order_total all key

-- ---- a rank over pairs

-- Whether the key of a pair counts.
abbrev before : Bool → List ℕ → List ℕ × ℕ → Bool
before itself key pair = is_beyond itself (byte_order pair.0 key)

-- How many pairs' keys do.
abbrev pairs_before : Bool → List ℕ → List (List ℕ × ℕ) → ℕ
pairs_before itself key pairs = length (filter (before itself key) pairs)

-- As many keys pass a test as pairs whose keys do.
pub keys_that : (test : List ℕ → Bool) (pairs : List (List ℕ × ℕ)) → length (filter test (map (λ pair. pair.0) pairs)) ≡ length (filter (λ pair. test pair.0) pairs)
keys_that test [] = refl
keys_that test (pair ∷ rest) =
    elim (test pair.0) as (λ b. length (cond b (pair.0 ∷ filter test (map (λ one. one.0) rest)) (filter test (map (λ one. one.0) rest))) ≡
    length (cond b (pair ∷ filter (λ one. test one.0) rest) (filter (λ one. test one.0) rest))) [
      | true ↦ ap suc (keys_that test rest)
      | false ↦ keys_that test rest
    ]

-- A rank counts the entries whose keys count.
rank_pairs : (itself : Bool) (all : FinMap byte_order ℕ) (key : List ℕ) → ranked itself all key ≡ pairs_before itself key (entries all)
unfolding rank count_up_to
rank_pairs true all key = keys_that (λ other. is_le (byte_order other key)) (entries all)
rank_pairs false all key = keys_that (λ other. is_lt (byte_order other key)) (entries all)

-- ---- at a tail

-- One where a test holds.
abbrev pub one_if : Bool → ℕ
one_if test = cond test 1 0

-- As a number it is that.
pub one_told : (test : Bool) → from_bool test ≡ one_if test
one_told true = refl
one_told false = refl

one_pair : (pair : List ℕ × ℕ) (test : Bool) → length (cond test (pair ∷ []) []) ≡ one_if test
one_pair pair true = refl
one_pair pair false = refl

-- At a tail its one key may be.
pub rank_tail : (itself : Bool) (arena : Arena) → IsArena arena → (at : ℕ) (held : List ℕ) (value : ℕ) → world_of arena (suc at) ≡ tail (pieces held) value →
    IsText held → (key : List ℕ) → ranked itself (map_behind (world_of arena) (suc at)) key ≡ one_if (is_beyond itself (byte_order held key))
rank_tail itself arena is at held value here text key =
    rank_pairs itself (map_behind (world_of arena) (suc at)) key
    ∙ ap (pairs_before itself key) (tail_entries arena is at held value here text)
    ∙ one_pair (held, value) (is_beyond itself (byte_order held key))

-- ---- at a level

-- Behind the same bytes as many count as without them.
before_led : (itself : Bool) (front key : List ℕ) (pairs : List (List ℕ × ℕ)) → pairs_before itself (front ++ key) (led_pairs front pairs) ≡ pairs_before itself key pairs
before_led itself front key [] = refl
before_led itself front key (pair ∷ rest) =
    ap (λ b. length (cond b ((front ++ pair.0, pair.1) ∷ filter (before itself (front ++ key)) (led_pairs front rest)) (filter (before itself (front ++ key)) (led_pairs front rest))))
    (ap (is_beyond itself) (order-front front pair.0 key))
    ∙ elim (is_beyond itself (byte_order pair.0 key)) as (λ b. length (cond b ((front ++ pair.0, pair.1) ∷ filter (before itself (front ++ key)) (led_pairs front rest))
    (filter (before itself (front ++ key)) (led_pairs front rest))) ≡ length (cond b (pair ∷ filter (before itself key) rest) (filter (before itself key) rest))) [
      | true ↦ ap suc (before_led itself front key rest)
      | false ↦ before_led itself front key rest
    ]

module _ (itself : Bool) (key : List ℕ) (text : IsText key) where
  begun_less : (piece : ℕ) (pair : List ℕ × ℕ) → Begun piece pair.0 → piece < piece_of key → before itself key pair ≡ true
  begun_less piece pair begun less =
      ap (is_beyond itself) (order-piece pair.0 key (text_of_key pair.0 begun.0) text
      ∙ ap (λ p. ordering_then (word_order p (piece_of key)) (byte_order (drop 8 pair.0) (drop 8 key))) begun.1
      ∙ ap (λ r. ordering_then r (byte_order (drop 8 pair.0) (drop 8 key))) (less_word piece (piece_of key) less))
      ∙ beyond_less itself

  begun_more : (piece : ℕ) (pair : List ℕ × ℕ) → Begun piece pair.0 → piece_of key < piece → before itself key pair ≡ false
  begun_more piece pair begun more =
      ap (is_beyond itself) (order-piece pair.0 key (text_of_key pair.0 begun.0) text
      ∙ ap (λ p. ordering_then (word_order p (piece_of key)) (byte_order (drop 8 pair.0) (drop 8 key))) begun.1
      ∙ ap (λ r. ordering_then r (byte_order (drop 8 pair.0) (drop 8 key))) (sym (nat_cmp_is piece (piece_of key) Greater more)))
      ∙ beyond_greater itself

  all_before : (piece : ℕ) → piece < piece_of key → (pairs : List (List ℕ × ℕ)) → AllByRecursion (λ (pair : List ℕ × ℕ). Begun piece pair.0) pairs → filter (before itself key) pairs ≡ pairs
  all_before piece less [] begun = refl
  all_before piece less (pair ∷ rest) begun =
      ap (λ b. cond b (pair ∷ filter (before itself key) rest) (filter (before itself key) rest)) (begun_less piece pair begun.0 less) ∙ ap (λ pairs. pair ∷ pairs) (all_before piece less rest begun.1)

  none_before : (piece : ℕ) → piece_of key < piece → (pairs : List (List ℕ × ℕ)) → AllByRecursion (λ (pair : List ℕ × ℕ). Begun piece pair.0) pairs → filter (before itself key) pairs ≡ []
  none_before piece more [] begun = refl
  none_before piece more (pair ∷ rest) begun =
      ap (λ b. cond b (pair ∷ filter (before itself key) rest) (filter (before itself key) rest)) (begun_more piece pair begun.0 more) ∙ none_before piece more rest begun.1

  parted : (world : World) (pairs : Pairs) → AreParts byte_order (entry_keys world) Begun begun_apart pairs → ArePartedBy (entry_keys world) (before itself key) (piece_of key) pairs
  parted world [] are = tt
  parted world (entry ∷ rest) are = ((λ less. all_before entry.0 less (entry_keys world entry) are.0.1, λ more. none_before entry.0 more (entry_keys world entry) are.0.1), parted world rest are.1)

  module _ {world : World} {behind : ℕ → List ℕ} (is : IsWorld world behind) (seat : ℕ) (words : FinMap word_order ℕ) (here : world seat ≡ level words) where
    -- Those behind entries with lesser pieces count, and what counts behind the entry of the key's own piece.
    level_split : ranked itself (map_behind world seat) key ≡ keys_below (part_len (entry_keys world)) (entries words) (piece_of key) + pairs_before itself key
        (part_of (entry_keys world) (piece_of key) (get words (piece_of key)))
    level_split =
        rank_pairs itself (map_behind world seat) key
        ∙ ap (pairs_before itself key) (entries_behind is seat words here)
        ∙ count_parts (entry_keys world) (before itself key) (piece_of key) (entries words) (entries_sorted words) (parted world (entries words) (all_parts is seat words here))
        ∙ ap (λ (found : Option ℕ). keys_below (part_len (entry_keys world)) (entries words) (piece_of key) + pairs_before itself key (part_of (entry_keys world) (piece_of key) found))
        (sym (get-entries words (piece_of key)))

    -- Those with lesser pieces are some of those that count.
    pub level_most : keys_below (part_len (entry_keys world)) (entries words) (piece_of key) ≤ ranked itself (map_behind world seat) key
    level_most = let all = level_split in omega arith

    -- Where the level has no entry for the key's piece, there is nothing more.
    pub rank_absent : get words (piece_of key) ≡ None → ranked itself (map_behind world seat) key ≡ keys_below (part_len (entry_keys world)) (entries words) (piece_of key)
    rank_absent none =
        let all = level_split ∙ ap (λ (found : Option ℕ). keys_below (part_len (entry_keys world)) (entries words) (piece_of key) + pairs_before itself key
        (part_of (entry_keys world) (piece_of key) found)) none in
        omega arith

    -- Where the key ends there, it may count itself.
    pub rank_final : length key < 8 → (value : ℕ) → get words (piece_of key) ≡ Some value → ranked itself (map_behind world seat) key ≡
        keys_below (part_len (entry_keys world)) (entries words) (piece_of key) + one_if itself
    rank_final short value some =
        let whole : piece_bytes (piece_of key) ≡ key = bytes-piece key text ∙ take_all 8 key (omega arith) in
        let own : pairs_before itself key (entry_keys world (piece_of key, value)) ≡ one_if itself =
        ap (pairs_before itself key) (final_keys world (piece_of key, value) (piece-IsFinal key text short))
        ∙ one_pair (piece_bytes (piece_of key), value) (is_beyond itself (byte_order (piece_bytes (piece_of key)) key))
        ∙ ap (λ bytes. one_if (is_beyond itself (byte_order bytes key))) whole
        ∙ ap (λ r. one_if (is_beyond itself r)) (tied_itself byte_order_total key)
        ∙ ap (λ b. one_if b) (beyond_same itself) in
        let all = level_split ∙ ap (λ (found : Option ℕ). keys_below (part_len (entry_keys world)) (entries words) (piece_of key) + pairs_before itself key
        (part_of (entry_keys world) (piece_of key) found)) some in
        omega arith

    -- Else what counts behind the child of its entry.
    pub rank_inner : 8 ≤ length key → (at : ℕ) → get words (piece_of key) ≡ Some at → ranked itself (map_behind world seat) key ≡
        keys_below (part_len (entry_keys world)) (entries words) (piece_of key) + ranked itself (map_behind world (suc at)) (drop 8 key)
    rank_inner long at some =
        let front : piece_bytes (piece_of key) ++ drop 8 key ≡ key = ap (λ bytes. bytes ++ drop 8 key) (bytes-piece key text) ∙ take-append-drop 8 key in
        let child = map_behind world (suc at) in
        let own : pairs_before itself key (entry_keys world (piece_of key, at)) ≡ ranked itself child (drop 8 key) =
        ap (pairs_before itself key) (inner_keys world (piece_of key, at) (piece-IsInner key text long))
        ∙ ap (λ k. pairs_before itself k (led_pairs (piece_bytes (piece_of key)) (entries child))) (sym front)
        ∙ before_led itself (piece_bytes (piece_of key)) (drop 8 key) (entries child)
        ∙ sym (rank_pairs itself child (drop 8 key)) in
        let all = level_split ∙ ap (λ (found : Option ℕ). keys_below (part_len (entry_keys world)) (entries words) (piece_of key) + pairs_before itself key
        (part_of (entry_keys world) (piece_of key) found)) some in
        omega arith
