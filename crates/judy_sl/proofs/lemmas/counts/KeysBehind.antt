-- How many keys stand behind pieces, and what one key more makes of that.
use Rattle.std.proofs.Common.{◌≡◌, ◌≢◌, ℕ, suc, ◌+◌, ◌≤◌, true, List, [], ◌∷◌, ◌++◌, length, drop, Option, None, Some, is_some, inl, inr, refl, sym, ap, subst, ◌∙◌, arith, true≢false}
use Rattle.std.proofs.lemmas.Bool.{cases_lt}
use Rattle.std.proofs.lemmas.List.{append_cancel_left, append_assoc, length-drop}
use Rattle.std.specs.FinMap.{FinMap, get, insert, empty, len, same_map, empty_of_len, get-empty, len-empty}
use Rattle.judy_model.specs.Keys.{byte_order}
use Rattle.judy_model.specs.Tables.{table}
use Rattle.judy_model.proofs.lemmas.maps.TableLemmas.{byte_order_total, byte_order_same, get-table, table_some, table_none, table_insert}
use Rattle.judy_sl.specs.Pieces.{pieces, piece_of, IsFinal, ArePieces, AreInner, SpellKey}
use Rattle.judy_sl.specs.World.{World, tail, lookup, walk}
use Rattle.judy_sl.specs.Behind.{map_behind}
use Rattle.judy_sl.specs.Counted.{keys_behind}
use Rattle.judy_sl.specs.Grown.{IsChange}
use Rattle.judy_sl.proofs.lemmas.pieces.PieceLemmas.{text_of_key, text-drop, key_of_text, pieces_are, pieces_same, piece-IsFinal}
use Rattle.judy_sl.proofs.lemmas.pieces.Ways.{look_in, lookup-in, lookup-walk, tail-same, tail-other, pieces_short, pieces_long}
use Rattle.judy_sl.proofs.lemmas.pieces.OnWay.{pieces-head, pieces-some}
use Rattle.judy_sl.proofs.lemmas.seats.Maps.{len-added}
use Rattle.judy_sl.proofs.lemmas.pieces.Strings.{all_strings-all}
use Rattle.judy_sl.specs.Strings.{IsString, all_strings}

-- ---- pieces behind pieces

-- Pieces behind inner ones are pieces.
pub are-behind : (front ps : List ℕ) → AreInner front → ArePieces ps → ArePieces (front ++ ps)
are-behind [] ps inner are = are
are-behind (piece ∷ []) [] inner are = absurd are
are-behind (piece ∷ []) (next ∷ ps) inner are = (inner.0, are)
are-behind (piece ∷ next ∷ front) ps inner are = (inner.0, are-behind (next ∷ front) ps inner.1 are)

-- What is left of a key behind inner pieces are the pieces of a key.
pub rest-key : (front rest key : List ℕ) → AreInner front → IsString key → pieces key ≡ front ++ rest → SpellKey rest
rest-key [] rest key inner is e = record { key = key; is_key = is; spells = e }
rest-key (piece ∷ front) rest key inner is e = elim (cases_lt (length key) 8) [
  | inl short ↦
      let s : piece_of key ∷ [] ≡ piece ∷ front ++ rest = sym (pieces_short key short) ∙ e in
      let first : piece_of key ≡ piece = cc in
      absurd (inner.0 (subst IsFinal first (piece-IsFinal key (text_of_key key is) short)))
  | inr long ↦
      let s : piece_of key ∷ pieces (drop 8 key) ≡ piece ∷ front ++ rest = sym (pieces_long key long) ∙ e in
      let more : pieces (drop 8 key) ≡ front ++ rest = cc in
      let text = text-drop 8 key (text_of_key key is) in
      let l = length-drop 8 key in
      let w = is.is_bytes_key.within_limit in
      rest-key front rest (drop 8 key) inner.1 (key_of_text (drop 8 key) text (omega (arith, l, w))) more
]

-- ---- tables

-- Functions that answer alike at each key have one table.
pub table_alike : (one other : List ℕ → Option ℕ) → ((key : List ℕ) → IsString key → one key ≡ other key) → table all_strings one ≡ table all_strings other
table_alike one other alike =
    same_map byte_order_total byte_order_same (table all_strings one) (table all_strings other) (λ key. by_get key (get (table all_strings one) key) refl (get (table all_strings other) key) refl)
  where
    by_get : (key : List ℕ) (x : Option ℕ) → get (table all_strings one) key ≡ x → (y : Option ℕ) → get (table all_strings other) key ≡ y →
        get (table all_strings one) key ≡ get (table all_strings other) key
    by_get key None e None f = e ∙ sym f
    by_get key (Some v) e y f =
        let is = (table_some all_strings-all one key v e).0 in
        get-table all_strings-all one key is ∙ alike key is ∙ sym (get-table all_strings-all other key is)
    by_get key None e (Some v) f =
        let is = (table_some all_strings-all other key v f).0 in
        get-table all_strings-all one key is ∙ alike key is ∙ sym (get-table all_strings-all other key is)

-- ---- keys behind pieces

-- What is found behind pieces, by the bytes that are left of a key.
abbrev pub found_after : World → List ℕ → List ℕ → Option ℕ
found_after world front rest = lookup world 0 (front ++ pieces rest)

-- How many keys go on behind pieces.
abbrev pub keys_after : World → List ℕ → ℕ
keys_after world front = len (table all_strings (found_after world front))

-- They are those behind the seat to which the pieces lead.
pub map-reached : (world : World) (front : List ℕ) (seat : ℕ) → walk world 0 front ≡ Some seat → map_behind world seat ≡ table all_strings (found_after world front)
map-reached world front seat way = table_alike (λ rest. lookup world seat (pieces rest)) (found_after world front) (λ rest is.
    let h = pieces-head rest in
    ap (lookup world seat) h.1 ∙ sym (lookup-walk world 0 front seat (piece_of rest) h.0 way) ∙ sym (ap (λ ps. lookup world 0 (front ++ ps)) h.1))

pub keys-reached : (world : World) (front : List ℕ) (seat : ℕ) → walk world 0 front ≡ Some seat → keys_behind world seat ≡ keys_after world front
keys-reached world front seat way = ap (λ (m : FinMap byte_order ℕ). len m) (map-reached world front seat way)

-- One key more comes in.
module _ (world other : World) (key : List ℕ) (value : ℕ) (change : IsChange world other (pieces key) (Some value)) (front : List ℕ) (inner : AreInner front) where
  pub off-key : (rest : List ℕ) → IsString rest → front ++ pieces rest ≢ pieces key → found_after other front rest ≡ found_after world front rest
  off-key rest is ne = change.elsewhere (front ++ pieces rest) (are-behind front (pieces rest) inner (pieces_are rest (text_of_key rest is))) ne

  -- Off its way as many keys go on as before,
  pub keys-stay : ((rest : List ℕ) → front ++ rest ≢ pieces key) → keys_after other front ≡ keys_after world front
  keys-stay off = ap (λ (m : FinMap byte_order ℕ). len m) (table_alike (found_after other front) (found_after world front) (λ rest is. off-key rest is (off (pieces rest))))

  -- and on its way one more.
  pub keys-come : IsString key → lookup world 0 (pieces key) ≡ None → (rest : List ℕ) → pieces key ≡ front ++ rest → keys_after other front ≡ suc (keys_after world front)
  keys-come is none rest parts =
      let left = rest-key front rest key inner is parts in
      let whole : front ++ pieces left.key ≡ pieces key = ap (λ ps. front ++ ps) left.spells ∙ sym parts in
      let absent : get (table all_strings (found_after world front)) left.key ≡ None = get-table all_strings-all (found_after world front) left.key left.is_key ∙ ap (lookup world 0) whole ∙ none in
      let more = len-added (table all_strings (found_after world front)) left.key value absent in
      ap (λ (m : FinMap byte_order ℕ). len m) (table_insert all_strings-all (found_after world front) (found_after other front) left.key value left.is_key
      (ap (lookup other 0) whole ∙ change.at_key) (λ r is_r ne. off-key r is_r (λ same. ne (
      pieces_same r left.key (text_of_key r is_r) (text_of_key left.key left.is_key) (append_cancel_left front (pieces r) (pieces left.key) (same ∙ sym whole))))))
      ∙ more ∙ omega arith

-- Where a key is there, some go on behind its first pieces.
pub keys-some : (world : World) (front : List ℕ) → AreInner front → (key : List ℕ) → IsString key → (rest : List ℕ) → pieces key ≡ front ++ rest →
    is_some (lookup world 0 (pieces key)) ≡ true → 1 ≤ keys_after world front
keys-some world front inner key is rest parts there = elim (cases_lt (keys_after world front) 1) [
  | inl none ↦
      let left = rest-key front rest key inner is parts in
      let nothing = empty_of_len (table all_strings (found_after world front)) (omega (arith, none)) in
      let absent : lookup world 0 (pieces key) ≡ None =
      ap (lookup world 0) (parts ∙ ap (λ ps. front ++ ps) (sym left.spells))
      ∙ sym (get-table all_strings-all (found_after world front) left.key left.is_key)
      ∙ ap (λ (m : FinMap byte_order ℕ). get m left.key) nothing
      ∙ get-empty byte_order left.key in
      absurd (true≢false (sym there ∙ ap (λ (found : Option ℕ). is_some found) absent))
  | inr some ↦ some
]

some-behind : (front ps : List ℕ) → ps ≢ [] → front ++ ps ≢ []
some-behind [] ps some = some
some-behind (piece ∷ front) ps some = λ e. cc

-- Behind a part of what a tail holds goes on its key alone.
module _ (world : World) (front : List ℕ) (seat : ℕ) (way : walk world 0 front ≡ Some seat) (mid rest : List ℕ) (value : ℕ) (is_tail : world seat ≡ tail (mid ++ rest) value)
    (left : SpellKey rest) where
  tail-found : (r : List ℕ) → found_after world (front ++ mid) r ≡ look_in world (tail (mid ++ rest) value) (mid ++ pieces r)
  tail-found r = by_head (mid ++ pieces r) refl
    where
      by_head : (ps : List ℕ) → mid ++ pieces r ≡ ps → found_after world (front ++ mid) r ≡ look_in world (tail (mid ++ rest) value) (mid ++ pieces r)
      by_head [] e = absurd (some-behind mid (pieces r) (pieces-some r) e)
      by_head (p ∷ ps) e =
          ap (lookup world 0) (append_assoc front mid (pieces r) ∙ ap (λ l. front ++ l) e)
          ∙ lookup-walk world 0 front seat p ps way
          ∙ lookup-in world seat (p ∷ ps)
          ∙ ap (λ n. look_in world n (p ∷ ps)) is_tail
          ∙ ap (look_in world (tail (mid ++ rest) value)) (sym e)

  held-found : found_after world (front ++ mid) left.key ≡ Some value
  held-found =
      let same : mid ++ rest ≡ mid ++ pieces left.key = ap (λ ps. mid ++ ps) (sym left.spells) in
      tail-found left.key
      ∙ ap (look_in world (tail (mid ++ rest) value)) (sym same)
      ∙ tail-same world (mid ++ rest) value (λ nil. some-behind mid (pieces left.key) (pieces-some left.key) (sym same ∙ nil))

  others-none : (r : List ℕ) → IsString r → r ≢ left.key → found_after world (front ++ mid) r ≡ None
  others-none r is ne =
      tail-found r
      ∙ tail-other world (mid ++ rest) (mid ++ pieces r) value (λ same. ne (pieces_same r left.key (text_of_key r is) (text_of_key left.key left.is_key)
      (append_cancel_left mid (pieces r) rest (sym same) ∙ sym left.spells)))

  pub keys-tail : keys_after world (front ++ mid) ≡ 1
  keys-tail =
      let none : table all_strings (λ r. None) ≡ empty = table_none all_strings-all (λ r. None) (λ r is. refl) in
      ap (λ (m : FinMap byte_order ℕ). len m) (table_insert all_strings-all (λ r. None) (found_after world (front ++ mid)) left.key value left.is_key held-found others-none ∙
      ap (λ (m : FinMap byte_order ℕ). insert m left.key value) none)
      ∙ len-added empty left.key value (get-empty byte_order left.key)
      ∙ ap (λ n. n + 1) (len-empty byte_order ℕ)
