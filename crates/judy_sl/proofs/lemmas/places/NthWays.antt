-- The way down to the key at a place behind a child.
use Rattle.std.proofs.Common.{◌≡◌, ◌≢◌, ℕ, zero, suc, ◌+◌, ◌%◌, ◌<◌, ◌≤◌, ⊎_elim, List, [], ◌∷◌, ◌++◌, length, slice_get, Option, None, Some, refl, sym, ap, ◌∙◌, subst, arith}
use Rattle.std.specs.List.{flat_map, AllByRecursion}
use Rattle.std.specs.Option.{option_map}
use Rattle.std.specs.FinMap.{FinMap, entries, entries_sorted, get, get-entries, len, len-entries, len-empty}
use Rattle.std.proofs.lemmas.Bool.{cases_eq}
use Rattle.std.proofs.lemmas.List.{append_assoc, length-append}
use Rattle.std.proofs.lemmas.Option.{slice_get_cases, slice_get_within, slice_get-map, same_Some, none-some}
use Rattle.judy_model.specs.Keys.{word_order, byte_order}
use Rattle.judy_model.proofs.lemmas.maps.TableLemmas.{byte_order_total, byte_order_same}
use Rattle.judy_sums.proofs.Parts.{each_found}
use Rattle.judy_sl.specs.declared.arena.Arena.{Arena}
use Rattle.judy_sl.specs.declared.nth.EntryPlace.{EntryPlace}
use Rattle.judy_sl.specs.Pieces.{pieces, piece_bytes, IsFinal, IsInner, IsText}
use Rattle.judy_sl.specs.World.{World, gone, tail, level}
use Rattle.judy_sl.specs.Arenas.{world_of, IsArena}
use Rattle.judy_sl.specs.Behind.{map_behind, entry_keys}
use Rattle.judy_sl.specs.Counted.{keys_behind}
use Rattle.judy_sl.specs.Nth.{KeysFit, IsSpotOf, IsNthBehind}
use Rattle.judy_sl.proofs.lemmas.seats.Behind.{entries_behind}
use Rattle.judy_sl.proofs.lemmas.counts.KeysTold.{gone_empty, tail_entries, led_pairs, final_keys, inner_keys}
use Rattle.judy_model.specs.declared.keys.TheConstants.{LONGEST_STRING}

-- What holds of each holds of the one at a place.
pub all_at : {X : Type 0} (P : X → Type 0) (all : List X) (place : ℕ) (one : X) → AllByRecursion P all → slice_get all place ≡ Some one → P one
all_at P [] place one each at = cc
all_at P (first ∷ rest) zero one each at = subst P (same_Some first one at) each.0
all_at P (first ∷ rest) (suc place) one each at = all_at P rest place one each.1 at

-- The value of the key at a place is found.
pub held_at : (all : FinMap byte_order ℕ) (place : ℕ) (key : List ℕ) (value : ℕ) → slice_get (entries all) place ≡ Some (key, value) → get all key ≡ Some value
held_at all place key value at =
    all_at (λ (pair : List ℕ × ℕ). get all pair.0 ≡ Some pair.1) (entries all) place (key, value)
    (each_found byte_order byte_order_total byte_order_same (λ (pair : List ℕ × ℕ). get all pair.0 ≡ Some pair.1) (entries all) (entries_sorted all)
    (λ key value found. get-entries all key ∙ found)) at

-- ---- the keys behind an entry

-- Where pairs have bytes before them, the one at a place has them before its own.
record LedAt (front : List ℕ) (pairs : List (List ℕ × ℕ)) (place : ℕ) (key : List ℕ) (value : ℕ) : Type 0 where
  rest : List ℕ
  is : key ≡ front ++ rest
  at : slice_get pairs place ≡ Some (rest, value)

led_at : (front : List ℕ) (pairs : List (List ℕ × ℕ)) (place : ℕ) (key : List ℕ) (value : ℕ) → slice_get (led_pairs front pairs) place ≡ Some (key, value) → LedAt front pairs place key value
led_at front pairs place key value at = by (slice_get pairs place) refl
  where
    led : List ℕ × ℕ → List ℕ × ℕ
    led pair = (front ++ pair.0, pair.1)

    by : (found : Option (List ℕ × ℕ)) → slice_get pairs place ≡ found → LedAt front pairs place key value
    by None is =
        let none : None ≡ Some (key, value) = sym (slice_get-map (λ (pair : List ℕ × ℕ). (front ++ pair.0, pair.1)) pairs place ∙
        ap (option_map (λ (pair : List ℕ × ℕ). (front ++ pair.0, pair.1))) is) ∙ at in absurd (none-some (key, value) none)
    by (Some pair) is =
        let same = same_Some (front ++ pair.0, pair.1) (key, value) (sym (slice_get-map (λ (pair : List ℕ × ℕ). (front ++ pair.0, pair.1)) pairs place ∙
        ap (option_map (λ (pair : List ℕ × ℕ). (front ++ pair.0, pair.1))) is) ∙ at) in
        record { rest = pair.0; is = ap (λ (p : List ℕ × ℕ). p.0) (sym same); at = is ∙ ap (λ v. Some (pair.0, v)) (ap (λ (p : List ℕ × ℕ). p.1) same) }

-- ---- the way

-- The key at a place behind the first child is the one at a place behind the child to which the way has come; the buffer has its bytes up to there.
pub record OnNth (world : World) (child place : ℕ) (before : List ℕ) (at left : ℕ) (bytes : List ℕ) : Type 0 where
  pub rest : List ℕ
  pub value : ℕ
  pub stands : slice_get (entries (map_behind world (suc child))) place ≡ Some (rest, value)
  pub room : length (before ++ rest) ≤ LONGEST_STRING
  pub later : List ℕ
  pub here : slice_get (entries (map_behind world (suc at))) left ≡ Some (later, value)
  pub bytes_are : bytes ++ later ≡ before ++ rest

pub nth_start : (world : World) (child place : ℕ) (before : List ℕ) → place < keys_behind world (suc child) → KeysFit world (suc child) before → OnNth world child place before child place before
nth_start world child place before within fits = ⊎_elim
    (λ some. record {
      rest = some.0.0;
      value = some.0.1;
      stands = some.2;
      room = (let room = fits some.0.0 some.0.1 (held_at (map_behind world (suc child)) place some.0.0 some.0.1 some.2) in let long = length-append before some.0.0 in omega arith);
      later = some.0.0;
      here = some.2;
      bytes_are = refl;
    })
    (λ past. let long = len-entries (map_behind world (suc child)) in absurd (let never : ⊥ = omega (arith, long) in never))
    (slice_get_cases (entries (map_behind world (suc child))) place).1

module _ (arena : Arena) (is_arena : IsArena arena) (child place : ℕ) (before : List ℕ) (at left : ℕ) (bytes : List ℕ) (on : OnNth (world_of arena) child place before at left bytes) where
  abbrev W : World
  W = world_of arena

  -- The way comes to no free place.
  pub nth_there : W (suc at) ≢ gone
  nth_there is =
      let within = slice_get_within (entries (map_behind W (suc at))) left (on.later, on.value) on.here in
      let long = len-entries (map_behind W (suc at)) in
      let none = ap len (gone_empty W (suc at) is) ∙ len-empty byte_order ℕ in
      let never : ⊥ = omega (arith, within, long, none) in
      never

  -- ---- to a tail

  module _ (held : List ℕ) (value : ℕ) (here : W (suc at) ≡ tail (pieces held) value) (text : IsText held) where
    nth_last : (held ≡ on.later) × (value ≡ on.value)
    nth_last = only left (ap (λ pairs. slice_get pairs left) (sym (tail_entries arena is_arena at held value here text)) ∙ on.here)
      where
        only : (place : ℕ) → slice_get {X = List ℕ × ℕ} ((held, value) ∷ []) place ≡ Some (on.later, on.value) → (held ≡ on.later) × (value ≡ on.value)
        only zero e = let same = same_Some (held, value) (on.later, on.value) e in (ap (λ (p : List ℕ × ℕ). p.0) same, ap (λ (p : List ℕ × ℕ). p.1) same)
        only (suc place) e = cc

    -- The buffer has room for it.
    pub nth_tail_room : length bytes + length held ≤ LONGEST_STRING
    nth_tail_room =
        let same = ap length (nth_last.0) in
        let long = length-append bytes on.later in
        let whole = ap length on.bytes_are in
        let room = on.room in
        omega arith

    -- And that is the key.
    pub nth_tail : IsNthBehind W (suc child) place before (bytes ++ held) (Some value)
    nth_tail = record {
      rest = on.rest;
      value = on.value;
      stands = on.stands;
      bytes = ap (λ last. bytes ++ last) nth_last.0 ∙ on.bytes_are;
      answer = ap Some nth_last.1;
    }

  -- ---- to a level

  module _ (words : FinMap word_order ℕ) (here : W (suc at) ≡ level words) where
    nth_level : slice_get (flat_map (entry_keys W) (entries words)) left ≡ Some (on.later, on.value)
    nth_level = ap (λ pairs. slice_get pairs left) (sym (entries_behind is_arena.is_world (suc at) words here)) ∙ on.here

    -- The key is one of those behind its entries.
    pub nth_within : left < length (flat_map (entry_keys W) (entries words))
    nth_within = slice_get_within (flat_map (entry_keys W) (entries words)) left (on.later, on.value) nth_level

    module _ (spot : EntryPlace) (is : IsSpotOf W words left spot) where
      nth_entry : slice_get (entry_keys W (spot.piece, spot.value)) spot.place ≡ Some (on.later, on.value)
      nth_entry = sym is.same ∙ nth_level

      -- Behind a final piece it ends.
      nth_ends : IsFinal spot.piece → (piece_bytes spot.piece ≡ on.later) × (spot.value ≡ on.value)
      nth_ends final = only spot.place (ap (λ pairs. slice_get pairs spot.place) (sym (final_keys W (spot.piece, spot.value) final)) ∙ nth_entry)
        where
          only : (place : ℕ) → slice_get {X = List ℕ × ℕ} ((piece_bytes spot.piece, spot.value) ∷ []) place ≡ Some (on.later, on.value) → (piece_bytes spot.piece ≡ on.later) × (spot.value ≡ on.value)
          only zero e = let same = same_Some (piece_bytes spot.piece, spot.value) (on.later, on.value) e in (ap (λ (p : List ℕ × ℕ). p.0) same, ap (λ (p : List ℕ × ℕ). p.1) same)
          only (suc place) e = cc

      nth_goes : IsInner spot.piece → LedAt (piece_bytes spot.piece) (entries (map_behind W (suc spot.value))) spot.place on.later on.value
      nth_goes inner =
          led_at (piece_bytes spot.piece) (entries (map_behind W (suc spot.value))) spot.place on.later on.value
          (ap (λ pairs. slice_get pairs spot.place) (sym (inner_keys W (spot.piece, spot.value) inner)) ∙ nth_entry)

      -- The buffer has room for the piece.
      pub nth_room : length bytes + length (piece_bytes spot.piece) ≤ LONGEST_STRING
      nth_room = ⊎_elim
          (λ final.
          let same = ap length ((nth_ends final).0) in
          let long = length-append bytes on.later in
          let whole = ap length on.bytes_are in
          let room = on.room in
          omega arith)
          (λ inner.
          let goes = nth_goes inner in
          let same = ap length goes.is ∙ length-append (piece_bytes spot.piece) goes.rest in
          let long = length-append bytes on.later in
          let whole = ap length on.bytes_are in
          let room = on.room in
          omega arith)
          (cases_eq (spot.piece % 256) 0)

      pub nth_final : IsFinal spot.piece → IsNthBehind W (suc child) place before (bytes ++ piece_bytes spot.piece) (Some spot.value)
      nth_final final = record {
        rest = on.rest;
        value = on.value;
        stands = on.stands;
        bytes = ap (λ last. bytes ++ last) (nth_ends final).0 ∙ on.bytes_are;
        answer = ap Some (nth_ends final).1;
      }

      -- Behind an inner one the way goes on.
      pub nth_down : IsInner spot.piece → OnNth W child place before spot.value spot.place (bytes ++ piece_bytes spot.piece)
      nth_down inner =
          let goes = nth_goes inner in
          record {
            rest = on.rest;
            value = on.value;
            stands = on.stands;
            room = on.room;
            later = goes.rest;
            here = goes.at;
            bytes_are = append_assoc bytes (piece_bytes spot.piece) goes.rest ∙ ap (λ last. bytes ++ last) (sym goes.is) ∙ on.bytes_are;
          }
