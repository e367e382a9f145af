-- An array of strings, and what its changes make of it.
use Rattle.std.proofs.Common.{◌≡◌, ℕ, suc, ◌≤◌, List, [], ◌∷◌, ◌++◌, None, Some, sym, ap, subst, ◌∙◌, arith}
use Rattle.std.specs.FinMap.{FinMap, get, insert, len, len-empty}
use Rattle.judy_model.specs.Keys.{byte_order}
use Rattle.judy_model.specs.Arrays.{empty_array}
use Rattle.judy_sl.specs.declared.arena.Arena.{Arena}
use Rattle.judy_sl.specs.declared.arena.Place.{Place}
use Rattle.judy_sl.specs.Pieces.{pieces, piece_of}
use Rattle.judy_sl.specs.World.{World, lookup, at_entry}
use Rattle.judy_sl.specs.Arenas.{world_of, map_of, array_of, AreWithin, IsStrings}
use Rattle.judy_sl.specs.Places.{place_with, place_value}
use Rattle.judy_sl.specs.Ways.{IsFound, IsGap, IsClash, seat_of, left_of}
use Rattle.judy_sl.specs.Lends.{with_value}
use Rattle.judy_tails.specs.Tails.{no_tails}
use Rattle.judy_sl.proofs.lemmas.pieces.Strings.{within-none, within-insert}
use Rattle.judy_sl.proofs.lemmas.pieces.Ways.{look_in, lookup-in, lookup-walk, lookup-level, tail-other}
use Rattle.judy_sl.proofs.lemmas.pieces.OnWay.{pieces-head}
use Rattle.judy_sl.proofs.lemmas.inserts.Written.{written-arena, written-led, written-change, found-there, value-there}
use Rattle.judy_sl.proofs.lemmas.seats.Maps.{get-map, map_written, empty-arena, empty-led, empty-map, len-written}
use Rattle.judy_sl.specs.Strings.{IsString}

module _ (world : World) (key : List ℕ) where
  -- Nothing is found where a level has no entry,
  pub gap-none : (place : Place) (left : ℕ) → IsGap world key place left → lookup world 0 (pieces key) ≡ None
  gap-none place left gap =
      let h = pieces-head (left_of key left) in
      ap (lookup world 0) (gap.leads.parts ∙ ap (λ ps. gap.leads.front ++ ps) h.1)
      ∙ lookup-walk world 0 gap.leads.front (seat_of place) (piece_of (left_of key left)) h.0 gap.leads.way
      ∙ lookup-level world (seat_of place) gap.map (piece_of (left_of key left) ∷ h.0) gap.is_level
      ∙ ap (λ o. at_entry o h.0 (λ at. lookup world (suc at) h.0)) (ap (get gap.map) (sym gap.next) ∙ gap.absent)

  -- nor where another's tail stands.
  pub clash-none : (from : Place) (at left : ℕ) → IsClash world key from at left → lookup world 0 (pieces key) ≡ None
  clash-none from at left clash =
      let h = pieces-head (left_of key left) in
      ap (lookup world 0) (clash.leads.parts ∙ ap (λ ps. clash.leads.front ++ ps) h.1)
      ∙ lookup-walk world 0 clash.leads.front (suc at) (piece_of (left_of key left)) h.0 clash.leads.way
      ∙ lookup-in world (suc at) (piece_of (left_of key left) ∷ h.0)
      ∙ ap (look_in world (world (suc at))) (sym h.1)
      ∙ ap (λ node. look_in world node (pieces (left_of key left))) clash.is_tail
      ∙ tail-other world clash.held (pieces (left_of key left)) clash.value clash.other

-- A new array.
pub strings-new : {most : ℕ} (limit : ℕ) (arena : Arena) → arena.levels.slots ≡ [] → arena.tails ≡ no_tails → arena.root ≡ empty_array 18446744073709551615 → 1 ≤ limit →
    limit ≤ 4294967295 → IsStrings most 0 limit 0 arena
strings-new limit arena no_levels nothing no_root some fits = record {
  is_arena = empty-arena arena no_levels nothing no_root;
  led = empty-led arena no_levels nothing no_root;
  counted = sym (ap (λ (map : FinMap byte_order ℕ). len map) (empty-map arena no_levels nothing no_root) ∙ len-empty byte_order ℕ);
  within_limit = omega arith;
  holds_some = some;
  limit_fits = fits;
  short = subst (AreWithin 0) (sym (empty-map arena no_levels nothing no_root)) within-none;
  longest_fits = omega arith;
}

module _ {most longest : ℕ} (limit count : ℕ) (arena : Arena) (is : IsStrings most longest limit count arena) (key : List ℕ) (is_key : IsString key) (place : Place)
    (found : IsFound (world_of arena) key place) where
  pub get-there : get (map_of arena) key ≡ Some found.value
  get-there = get-map arena key is_key ∙ found-there arena is.is_arena key place found

  pub value-place : place_value arena place ≡ get (map_of arena) key
  value-place = value-there arena is.is_arena key place found ∙ sym get-there

  pub map-written : (value : ℕ) → map_of (place_with arena place value) ≡ insert (map_of arena) key value
  map-written value = map_written arena (place_with arena place value) key is_key value (written-change arena is.is_arena key place found value)

  pub strings-written : (value : ℕ) → IsStrings most longest limit count (place_with arena place value)
  strings-written value = record {
    is_arena = written-arena arena is.is_arena key place found value;
    led = written-led arena is.is_arena key place found value is.led;
    counted = is.counted ∙ sym (ap (λ (map : FinMap byte_order ℕ). len map) (map-written value) ∙ len-written (map_of arena) key found.value value get-there);
    within_limit = is.within_limit;
    holds_some = is.holds_some;
    limit_fits = is.limit_fits;
    short = subst (AreWithin longest) (sym (map-written value)) (within-insert longest (map_of arena) key value is.short (is.short key found.value get-there));
    longest_fits = is.longest_fits;
  }

  pub array-written : (value : ℕ) → array_of limit (place_with arena place value) ≡ with_value (array_of limit arena) key value
  array-written value = ap (λ (map : FinMap byte_order ℕ). record { limit = limit; map = map }) (map-written value)
