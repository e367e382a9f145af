-- The keys behind a level's seat: entry by entry, the piece's bytes before the keys behind its child.
use Rattle.std.proofs.Common.{◌≡◌, ◌≢◌, ℕ, zero, suc, ◌%◌, ◌<◌, ◌≤◌, cond, T, ◌&&◌, List, [], ◌∷◌, ◌++◌, length, take, drop, Option, Some, None, is_some, Less, refl, sym, ap, ◌∙◌}
use Rattle.std.proofs.Common.{subst, arith, ⊎_elim}
use Rattle.std.specs.Ordering.{is_lt, is_eq, eq_by_cmp, ordering_then}
use Rattle.std.specs.List.{flat_map, AllByRecursion}
use Rattle.std.specs.Cmp.{nat_cmp_total, tied_itself}
use Rattle.std.specs.FinMap.{FinMap, nat_cmp-IsAntisymmetric, entries, entries_sorted, get, find, is_sorted, from_sorted, same_map, get-entries, get-from_sorted, entries-from_sorted}
use Rattle.std.specs.FinMap.Entries.{below_all}
use Rattle.std.proofs.lemmas.Bool.{cases_eq, cases_lt}
use Rattle.std.proofs.lemmas.List.{append_assoc, length-drop, length-take-le, take_all, take-append-drop}
use Rattle.std.proofs.lemmas.List.Elements.{All-append, All-take}
use Rattle.std.proofs.lemmas.Option.{none-some}
use Rattle.judy_model.specs.Keys.{word_order, byte_order}
use Rattle.judy_model.proofs.lemmas.maps.TableLemmas.{byte_order_total, byte_order_same, get-table, table_some}
use Rattle.judy_model.proofs.lemmas.orders.WordOrder.{less_word}
use Rattle.judy_sums.specs.Levels.{part_of}
use Rattle.judy_sums.proofs.Parts.{AreParts, find_parts, sorted_parts, found_tells, others_miss, each_found}
use Rattle.judy_sl.specs.Pieces.{piece_of, pieces, piece_bytes, IsFinal, IsInner, ArePieces, IsText, SpellKey}
use Rattle.judy_sl.specs.World.{World, Node, gone, tail, level, lookup, at_node}
use Rattle.judy_sl.specs.WorldInvariants.{IsWorld}
use Rattle.judy_sl.specs.Behind.{map_behind, entry_keys}
use Rattle.judy_sl.proofs.lemmas.pieces.Ways.{pieces_short, pieces_long}
use Rattle.judy_sl.proofs.lemmas.pieces.OnWay.{pieces-head}
use Rattle.judy_sl.proofs.lemmas.pieces.PieceLemmas.{text_of_key, key_of_text, pieces_are, pieces_same, piece-IsFinal, piece-IsInner, text-drop, order-piece}
use Rattle.judy_sl.proofs.lemmas.pieces.PieceBytes.{bytes-piece}
use Rattle.judy_sl.proofs.lemmas.scans.ScanLevels.{lookup_final, lookup_inner, lookup_absent, held_from_lookup, tail_only}
use Rattle.judy_sl.proofs.lemmas.scans.ScanEnds.{TextBehind, text_behind, text_begins, begins, value_held}
use Rattle.judy_sl.proofs.lemmas.seats.LevelLemmas.{piece-front, pieces-front}
use Rattle.judy_sl.proofs.lemmas.counts.KeysTold.{led_pairs, final_keys, inner_keys}
use Rattle.judy_sl.proofs.lemmas.pieces.Strings.{all_strings-all}
use Rattle.judy_sl.specs.Strings.{IsString}

-- ---- bytes behind the same front

-- Behind the same front bytes compare as without it.
pub order-front : (front one other : List ℕ) → byte_order (front ++ one) (front ++ other) ≡ byte_order one other
order-front [] one other = refl
order-front (byte ∷ front) one other = ap (λ r. ordering_then r (byte_order (front ++ one) (front ++ other))) (tied_itself nat_cmp_total byte) ∙ order-front front one other

find-led : (front key : List ℕ) (pairs : List (List ℕ × ℕ)) → find byte_order (front ++ key) (led_pairs front pairs) ≡ find byte_order key pairs
find-led front key [] = refl
find-led front key (pair ∷ rest) = (λ t. cond (is_eq (order-front front key pair.0 t)) (Some pair.1) (find-led front key rest t))

below-led : (front key : List ℕ) (pairs : List (List ℕ × ℕ)) → below_all byte_order (front ++ key) (led_pairs front pairs) ≡ below_all byte_order key pairs
below-led front key [] = refl
below-led front key (pair ∷ rest) = (λ t. is_lt (order-front front key pair.0 t) && below-led front key rest t)

sorted-led : (front : List ℕ) (pairs : List (List ℕ × ℕ)) → is_sorted byte_order (led_pairs front pairs) ≡ is_sorted byte_order pairs
sorted-led front [] = refl
sorted-led front (pair ∷ rest) = (λ t. below-led front pair.0 rest t && sorted-led front rest t)

-- ---- what a key in a part tells

-- A key, whose first piece is the word.
abbrev pub Begun : ℕ → List ℕ → Type 0
Begun piece key = IsString key × (piece_of key ≡ piece)

pub begun_apart : (low high : ℕ) (one other : List ℕ) → low < high → Begun low one → Begun high other → byte_order one other ≡ Less
begun_apart low high one other less begun also =
    order-piece one other (text_of_key one begun.0) (text_of_key other also.0)
    ∙ (λ t. ordering_then (word_order (begun.1 t) (also.1 t)) (byte_order (drop 8 one) (drop 8 other)))
    ∙ ap (λ r. ordering_then r (byte_order (drop 8 one) (drop 8 other))) (less_word low high less)

key-drop : (key : List ℕ) → IsString key → IsString (drop 8 key)
key-drop key is = key_of_text (drop 8 key) (text-drop 8 key (text_of_key key is)) (let within = is.is_bytes_key.within_limit in let long = length-drop 8 key in omega arith)

-- ---- one entry

module _ {world : World} {behind : ℕ → List ℕ} (is : IsWorld world behind) where
  -- One step of what follows.
  module _ (seat value piece : ℕ) (rest : List ℕ) (are : ArePieces (piece ∷ rest)) (found : lookup world seat (piece ∷ rest) ≡ Some value)
      (go : (at : ℕ) → ArePieces rest → lookup world (suc at) rest ≡ Some value → SpellKey (behind (suc at) ++ rest)) where
    spells_on : (words : FinMap word_order ℕ) → world seat ≡ level words → (at : ℕ) → get words piece ≡ Some at → (more : List ℕ) → rest ≡ more → SpellKey (behind seat ++ piece ∷ rest)
    spells_on words here at entry [] e =
        subst (λ more. SpellKey (behind seat ++ piece ∷ more)) (sym e) ((is.levels seat words here).ends piece at entry (subst (λ more. ArePieces (piece ∷ more)) e are))
    spells_on words here at entry (next ∷ more) e =
        let both : ArePieces (piece ∷ next ∷ more) = subst (λ some. ArePieces (piece ∷ some)) e are in
        let leads = (is.levels seat words here).leads piece at entry both.0 in
        let later : ArePieces rest = subst ArePieces (sym e) both.1 in
        subst SpellKey (ap (λ place. place ++ rest) leads.0 ∙ append_assoc (behind seat) (piece ∷ []) rest) (go at later (sym (lookup_inner world seat words here piece at rest entry later) ∙ found))

    spells_at : (node : Node) → world seat ≡ node → SpellKey (behind seat ++ piece ∷ rest)
    spells_at gone here = absurd (none-some value (sym (ap (λ node. at_node node piece rest (λ at. lookup world (suc at) rest)) here) ∙ found))
    spells_at (tail held kept) here = subst (λ ps. SpellKey (behind seat ++ ps)) (tail_only world seat held kept here (piece ∷ rest) value found) (is.tails seat held kept here)
    spells_at (level words) here =
        let held = value_held words piece (held_from_lookup world seat words here piece value rest found) in
        spells_on words here held.0 held.1 rest refl

  -- Pieces that are found at a seat are those of a key, behind the pieces that lead there.
  pub found_spells : (seat value : ℕ) (ps : List ℕ) → ArePieces ps → lookup world seat ps ≡ Some value → SpellKey (behind seat ++ ps)
  found_spells seat value [] are found = absurd are
  found_spells seat value (piece ∷ rest) are found = spells_at seat value piece rest are found (λ at later goes. found_spells (suc at) value rest later goes) (world seat) refl

  module _ (seat : ℕ) (words : FinMap word_order ℕ) (here : world seat ≡ level words) where
    -- A text begins with each piece of a level.
    entry_text : (piece at : ℕ) → get words piece ≡ Some at → (rest : List ℕ) × TextBehind (piece ∷ rest)
    entry_text piece at entry =
        let begun = begins is seat words piece here (ap (λ (found : Option ℕ). is_some found) entry) in (
          begun.rest,
          text_behind (behind seat) piece begun.rest begun.spelled.key (text_of_key begun.spelled.key begun.spelled.is_key) begun.spelled.is_key.is_bytes_key.within_limit begun.spelled.spells,
        )

    -- The bytes of a final piece are a key.
    pub final_key : (piece at : ℕ) → get words piece ≡ Some at → IsFinal piece → Begun piece (piece_bytes piece)
    final_key piece at entry final =
        let one = entry_text piece at entry in
        let text = one.1 in
        let it = text_begins piece one.0 text in
        ⊎_elim
        (λ (short : length text.bytes < 8).
        let all : piece_bytes piece ≡ text.bytes = ap piece_bytes (sym it) ∙ bytes-piece text.bytes text.text ∙ take_all 8 text.bytes (omega arith) in
        (subst IsString (sym all) (key_of_text text.bytes text.text text.within), ap piece_of all ∙ it))
        (λ long. absurd (piece-IsInner text.bytes text.text long (ap (λ p. p % 256) it ∙ final)))
        (cases_lt (length text.bytes) 8)

    -- The bytes of an inner piece are eight, and what they stand before begins with it.
    pub record Front (piece : ℕ) : Type 0 where
      pub text : IsText (piece_bytes piece)
      pub long : length (piece_bytes piece) ≡ 8
      pub begins : (more : List ℕ) → piece_of (piece_bytes piece ++ more) ≡ piece
      pub splits : (more : List ℕ) → pieces (piece_bytes piece ++ more) ≡ piece ∷ pieces more

    pub inner_front : (piece at : ℕ) → get words piece ≡ Some at → IsInner piece → Front piece
    inner_front piece at entry inner =
        let one = entry_text piece at entry in
        let text = one.1 in
        let it = text_begins piece one.0 text in
        ⊎_elim
        (λ short. absurd (inner (sym (ap (λ p. p % 256) it) ∙ piece-IsFinal text.bytes text.text short)))
        (λ (long : 8 ≤ length text.bytes).
        let bytes = take 8 text.bytes in
        let all : piece_bytes piece ≡ bytes = ap piece_bytes (sym it) ∙ bytes-piece text.bytes text.text in
        let eight : length bytes ≡ 8 = length-take-le 8 text.bytes long in
        let whole : piece_of bytes ≡ piece = sym (piece-front bytes (drop 8 text.bytes) (omega arith)) ∙ ap piece_of (take-append-drop 8 text.bytes) ∙ it in
        record {
          text = subst IsText (sym all) (All-take (λ b. (b < 256) × (b ≢ 0)) 8 text.bytes text.text);
          long = ap length all ∙ eight;
          begins = λ more. ap (λ front. piece_of (front ++ more)) all ∙ piece-front bytes more (omega arith) ∙ whole;
          splits = λ more. ap (λ front. pieces (front ++ more)) all ∙ pieces-front bytes more (omega arith)
              ∙ (λ t. whole t ∷ pieces (nothing bytes eight t ++ more));
        })
        (cases_lt (length text.bytes) 8)
      where
        nothing : (bytes : List ℕ) → length bytes ≡ 8 → drop 8 bytes ≡ []
        nothing bytes eight = drop_whole 8 bytes (omega arith)
          where
            drop_whole : (count : ℕ) (bytes : List ℕ) → length bytes ≤ count → drop count bytes ≡ []
            drop_whole zero [] most = refl
            drop_whole zero (byte ∷ bytes) most = absurd (let never : ⊥ = omega arith in never)
            drop_whole (suc count) [] most = refl
            drop_whole (suc count) (byte ∷ bytes) most = drop_whole count bytes (omega arith)

    -- Its bytes before those of a key behind its child are a key.
    pub inner_key : (piece at : ℕ) → get words piece ≡ Some at → IsInner piece → (rest : List ℕ) (value : ℕ) → get (map_behind world (suc at)) rest ≡ Some value →
        Begun piece (piece_bytes piece ++ rest)
    inner_key piece at entry inner rest value held =
        let front = inner_front piece at entry inner in
        let there = table_some all_strings-all (λ key. lookup world (suc at) (pieces key)) rest value held in
        let are = pieces_are rest (text_of_key rest there.0) in
        let whole = (front.splits rest) in
        let head = pieces-head rest in
        let inner_are : ArePieces (piece ∷ pieces rest) = subst (λ ps. ArePieces (piece ∷ ps)) (sym head.1) (inner, subst ArePieces head.1 are) in
        let found = lookup_inner world seat words here piece at (pieces rest) entry are ∙ there.1 in
        let key = found_spells seat value (piece ∷ pieces rest) inner_are found in
        let text = text_behind (behind seat) piece (pieces rest) key.key (text_of_key key.key key.is_key) key.is_key.is_bytes_key.within_limit key.spells in
        let own : IsText (piece_bytes piece ++ rest) = All-append (λ b. (b < 256) × (b ≢ 0)) (piece_bytes piece) rest front.text (text_of_key rest there.0) in
        let one : text.bytes ≡ piece_bytes piece ++ rest = pieces_same text.bytes (piece_bytes piece ++ rest) text.text own (text.spells ∙ sym whole) in
        (subst IsString one (key_of_text text.bytes text.text text.within), front.begins rest)

    -- ---- the parts

    -- A part is in order, and its keys begin with its piece.
    abbrev pub IsPart : ℕ × ℕ → List (List ℕ × ℕ) → Type 0
    IsPart entry pairs = T (is_sorted byte_order pairs) × AllByRecursion (λ (pair : List ℕ × ℕ). Begun entry.0 pair.0) pairs

    led_begun : (piece : ℕ) (pairs : List (List ℕ × ℕ)) → AllByRecursion (λ (pair : List ℕ × ℕ). Begun piece (piece_bytes piece ++ pair.0)) pairs →
        AllByRecursion (λ (pair : List ℕ × ℕ). Begun piece pair.0) (led_pairs (piece_bytes piece) pairs)
    led_begun piece [] each = tt
    led_begun piece (pair ∷ rest) each = (each.0, led_begun piece rest each.1)

    is_part : (entry : ℕ × ℕ) → get words entry.0 ≡ Some entry.1 → IsPart entry (entry_keys world entry)
    is_part entry there = ⊎_elim
        (λ final. subst (IsPart entry) (sym (final_keys world entry final)) (tt, (final_key entry.0 entry.1 there final, tt)))
        (λ inner.
        let child = map_behind world (suc entry.1) in
        let sorted = entries_sorted child in
        subst (IsPart entry) (sym (inner_keys world entry inner)) (
          subst T (sym (sorted-led (piece_bytes entry.0) (entries child))) sorted,
          led_begun entry.0 (entries child) (each_found byte_order byte_order_total byte_order_same (λ pair. Begun entry.0 (piece_bytes entry.0 ++ pair.0))
              (entries child) sorted (λ rest value found. inner_key entry.0 entry.1 there inner rest value (get-entries child rest ∙ found))),
        ))
        (cases_eq (entry.0 % 256) 0)

    abbrev pub AreAll : List (ℕ × ℕ) → Type 0
    AreAll pairs = AreParts byte_order (entry_keys world) Begun begun_apart pairs

    pub all_parts : AreAll (entries words)
    all_parts =
        each_found word_order nat_cmp_total nat_cmp-IsAntisymmetric (λ entry. IsPart entry (entry_keys world entry)) (entries words) (entries_sorted words)
        (λ piece at found. is_part (piece, at) (get-entries words piece ∙ found))

    -- ---- what is found

    abbrev keys : List (List ℕ × ℕ)
    keys = flat_map (entry_keys world) (entries words)

    -- What a key finds in the part of its piece.
    in_part : (key : List ℕ) → IsString key → find byte_order key keys ≡ find byte_order key (part_of (entry_keys world) (piece_of key) (get words (piece_of key)))
    in_part key is_key =
        find_parts byte_order (entry_keys world) key (piece_of key) (entries words) (entries_sorted words)
        (others_miss byte_order (entry_keys world) Begun begun_apart byte_order_same key (piece_of key) (λ other tells. sym tells.1) (entries words) all_parts)
        ∙ ap (λ (found : Option ℕ). find byte_order key (part_of (entry_keys world) (piece_of key) found)) (sym (get-entries words (piece_of key)))

    -- That is what is found at the seat under its pieces.
    pub led_on : (key : List ℕ) (is_key : IsString key) (found : Option ℕ) → get words (piece_of key) ≡ found →
        find byte_order key (part_of (entry_keys world) (piece_of key) found) ≡ lookup world seat (pieces key)
    led_on key is_key None none = let head = pieces-head key in sym (ap (lookup world seat) head.1 ∙ lookup_absent world seat words here (piece_of key) head.0 none)
    led_on key is_key (Some at) there = ⊎_elim
        (λ (short : length key < 8).
        let text = text_of_key key is_key in
        let all : piece_bytes (piece_of key) ≡ key = bytes-piece key text ∙ take_all 8 key (omega arith) in
        ap (find byte_order key) (final_keys world (piece_of key, at) (piece-IsFinal key text short))
        ∙ ap (λ bytes. cond (eq_by_cmp byte_order key bytes) (Some at) None) all
        ∙ ap (λ r. cond (is_eq r) (Some at) None) (tied_itself byte_order_total key)
        ∙ sym (ap (lookup world seat) (pieces_short key short) ∙ lookup_final world seat words here (piece_of key) at there))
        (λ long.
        let text = text_of_key key is_key in
        let child = map_behind world (suc at) in
        let rest = key-drop key is_key in
        let front : piece_bytes (piece_of key) ++ drop 8 key ≡ key = ap (λ bytes. bytes ++ drop 8 key) (bytes-piece key text) ∙ take-append-drop 8 key in
        ap (find byte_order key) (inner_keys world (piece_of key, at) (piece-IsInner key text long))
        ∙ ap (λ k. find byte_order k (led_pairs (piece_bytes (piece_of key)) (entries child))) (sym front)
        ∙ find-led (piece_bytes (piece_of key)) (drop 8 key) (entries child)
        ∙ sym (get-entries child (drop 8 key))
        ∙ get-table all_strings-all (λ k. lookup world (suc at) (pieces k)) (drop 8 key) rest
        ∙ sym (ap (lookup world seat) (pieces_long key long) ∙ lookup_inner world seat words here (piece_of key) at (pieces (drop 8 key)) there
        (pieces_are (drop 8 key) (text_of_key (drop 8 key) rest))))
        (cases_lt (length key) 8)

    same_at : (key : List ℕ) → IsString key → find byte_order key keys ≡ get (map_behind world seat) key
    same_at key is_key = in_part key is_key ∙ led_on key is_key (get words (piece_of key)) refl ∙ sym (get-table all_strings-all (λ k. lookup world seat (pieces k)) key is_key)

    same_else : (key : List ℕ) → find byte_order key keys ≡ get (map_behind world seat) key
    same_else key = by (find byte_order key keys) (get (map_behind world seat) key) refl refl
      where
        by : (one other : Option ℕ) → find byte_order key keys ≡ one → get (map_behind world seat) key ≡ other → find byte_order key keys ≡ get (map_behind world seat) key
        by (Some value) other found held = same_at key (found_tells byte_order (entry_keys world) Begun begun_apart byte_order_same key (entries words) all_parts value found).1.0
        by None (Some value) found held = same_at key (table_some all_strings-all (λ k. lookup world seat (pieces k)) key value held).0
        by None None found held = found ∙ sym held

    keys_sorted : T (is_sorted byte_order keys)
    keys_sorted = sorted_parts byte_order (entry_keys world) Begun begun_apart (entries words) (entries_sorted words) all_parts

    -- The keys behind the seat are those of its entries, one after the other.
    pub entries_behind : entries (map_behind world seat) ≡ flat_map (entry_keys world) (entries words)
    entries_behind =
        ap entries (same_map byte_order_total byte_order_same (map_behind world seat) (from_sorted keys) (λ key. sym (same_else key) ∙ sym (get-from_sorted byte_order keys key keys_sorted)))
        ∙ entries-from_sorted byte_order keys keys_sorted
