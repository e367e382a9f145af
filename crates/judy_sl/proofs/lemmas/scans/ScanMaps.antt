-- What a scan of the levels finds is the neighbour in the map.
use Rattle.std.proofs.Common.{◌≡◌, ℕ, Bool, true, false, not, IsTrue, IsFalse, List, length, Option, Some, None, is_some, unwrap_or, sym, refl, ap, ◌∙◌, true≢false, is_le}
use Rattle.std.specs.FinMap.{FinMap, get, contains_key}
use Rattle.std.proofs.lemmas.Option.{none-some}
use Rattle.std.specs.Option.{option_map}
use Rattle.judy_model.specs.Keys.{byte_order}
use Rattle.judy_model.proofs.lemmas.orders.Orders.{le_from_not_lt, lt_from_not_le}
use Rattle.judy_model.proofs.lemmas.queries.NearestLemmas.{first_found, first_missing, next_found, next_missing, last_found, last_missing, prev_found, prev_missing}
use Rattle.judy_model.proofs.lemmas.maps.TableLemmas.{get-table, table_some, byte_order_total, byte_order_same}
use Rattle.judy_sl.specs.declared.arena.Arena.{Arena}
use Rattle.judy_sl.specs.declared.scans.Side.{Side}
use Rattle.judy_sl.specs.declared.scans.Side.TheVariants.{Above, Below}
use Rattle.judy_sl.specs.declared.scans.Look.{Look}
use Rattle.judy_sl.specs.Pieces.{pieces, IsText}
use Rattle.judy_sl.specs.World.{lookup}
use Rattle.judy_sl.specs.Arenas.{world_of, map_of}
use Rattle.judy_sl.specs.Scans.{along_bytes, is_beyond, neighbour_along, value_found, meets, IsNeighbour}
use Rattle.judy_sl.proofs.lemmas.pieces.PieceLemmas.{text_of_key, pieces_are}
use Rattle.judy_sl.proofs.lemmas.scans.ScanEntries.{bytes_along}
use Rattle.judy_sl.proofs.lemmas.pieces.Strings.{all_strings-all}
use Rattle.judy_sl.specs.Strings.{IsString}

-- A key that is met, and before which none is, is the neighbour.
found_along : (side : Side) (itself : Bool) (map : FinMap byte_order ℕ) (from key : List ℕ) → IsTrue (contains_key map key) → IsTrue (is_beyond itself (along_bytes side from key))
    → ((other : List ℕ) → IsTrue (contains_key map other) → IsTrue (is_beyond itself (along_bytes side from other)) → IsTrue (is_le (along_bytes side key other))) →
    neighbour_along side itself map from ≡ Some key
found_along Above true map from key held met each = first_found byte_order_total byte_order_same map from key held met each
found_along Above false map from key held met each = next_found byte_order_total byte_order_same map from key held met each
found_along Below true map from key held met each = last_found byte_order_total byte_order_same map from key held met each
found_along Below false map from key held met each = prev_found byte_order_total byte_order_same map from key held met each

-- Where no key is met, there is none.
missing_along : (side : Side) (itself : Bool) (map : FinMap byte_order ℕ) (from : List ℕ) → ((other : List ℕ) → IsTrue (contains_key map other) →
    IsFalse (is_beyond itself (along_bytes side from other))) → neighbour_along side itself map from ≡ None
missing_along Above true map from none = first_missing byte_order_total byte_order_same map from (λ other held. lt_from_not_le byte_order_total other from ∙ ap not (none other held))
missing_along Above false map from none = next_missing byte_order_total byte_order_same map from (λ other held. le_from_not_lt byte_order_total other from ∙ ap not (none other held))
missing_along Below true map from none = last_missing byte_order_total byte_order_same map from (λ other held. lt_from_not_le byte_order_total from other ∙ ap not (none other held))
missing_along Below false map from none = prev_missing byte_order_total byte_order_same map from (λ other held. le_from_not_lt byte_order_total from other ∙ ap not (none other held))

-- What the map holds is found under its pieces.
pub held_found : (arena : Arena) (other : List ℕ) → IsTrue (contains_key (map_of arena) other) → (value : ℕ) × IsString other × (lookup (world_of arena) 0 (pieces other) ≡ Some value)
held_found arena other held = by (get (map_of arena) other) refl held
  where
    by : (found : Option ℕ) → get (map_of arena) other ≡ found → IsTrue (is_some found) → (value : ℕ) × IsString other × (lookup (world_of arena) 0 (pieces other) ≡ Some value)
    by None is so = absurd (true≢false (sym so))
    by (Some value) is so = let there = table_some all_strings-all (λ k. lookup (world_of arena) 0 (pieces k)) other value is in (value, there.0, there.1)

module _ (look : Look) (arena : Arena) (key : List ℕ) (text : IsText key) where
  meets_bytes : (other : List ℕ) → IsText other → meets look (world_of arena) (pieces key) (pieces other) ≡ is_beyond look.itself (along_bytes look.side key other)
  meets_bytes other also = ap (is_beyond look.itself) (bytes_along look.side key other text also)

  -- Where something is found, that is the neighbour; and else there is none.
  pub scanned-key : (after : List ℕ) (result : Option ℕ) → IsNeighbour look (world_of arena) key after result →
      neighbour_along look.side look.itself (map_of arena) key ≡ option_map (λ value. after) result
  scanned-key after None none = missing_along look.side look.itself (map_of arena) key (λ other held.
      let there = held_found arena other held in
      let also = text_of_key other there.1 in
      sym (meets_bytes other also) ∙ none.0 (pieces other) there.0 (pieces_are other also) there.2)
  scanned-key after (Some value) some =
      let mine = text_of_key after some.1 in
      let has = get-table all_strings-all (λ k. lookup (world_of arena) 0 (pieces k)) after some.1 ∙ some.2 in
      found_along look.side look.itself (map_of arena) key after (ap (λ (entry : Option ℕ). is_some entry) has) (sym (meets_bytes after mine) ∙ some.0.met) (λ other held met.
      let there = held_found arena other held in
      let also = text_of_key other there.1 in
      ap is_le (sym (bytes_along look.side after other mine also)) ∙ some.0.first (pieces other) there.0 (pieces_are other also) there.2 (meets_bytes other also ∙ met))

  -- The buffer then holds the neighbour, and the answer is its value.
  pub scanned : (after : List ℕ) (result : Option ℕ) → IsNeighbour look (world_of arena) key after result
      → (after ≡ unwrap_or (neighbour_along look.side look.itself (map_of arena) key) key) × (result ≡ value_found (map_of arena) (neighbour_along look.side look.itself (map_of arena) key))
  scanned after None none =
      let missing = scanned-key after None none in (none.1 ∙ ap (λ found. unwrap_or found key) (sym missing), ap (value_found (map_of arena)) (sym missing))
  scanned after (Some value) some =
      let found = scanned-key after (Some value) some in
      let has = get-table all_strings-all (λ k. lookup (world_of arena) 0 (pieces k)) after some.1 ∙ some.2 in
      (ap (λ one. unwrap_or one key) (sym found), sym has ∙ ap (value_found (map_of arena)) (sym found))

  -- The length of what was found is the neighbour's.
  pub measured : (after : List ℕ) (result : Option ℕ) → IsNeighbour look (world_of arena) key after result → (len : ℕ) → len ≡ length after →
      option_map (λ value. len) result ≡ option_map length (neighbour_along look.side look.itself (map_of arena) key)
  measured after None none len long = ap (option_map length) (sym (scanned-key after None none))
  measured after (Some value) some len long = ap Some long ∙ ap (option_map length) (sym (scanned-key after (Some value) some))

-- Where something was found, it is the value of the key that is then in the buffer.
pub value_there : (map : FinMap byte_order ℕ) (found : Option (List ℕ)) (value : ℕ) (before after : List ℕ) → Some value ≡ value_found map found →
    after ≡ unwrap_or found before → get map after ≡ value_found map found
value_there map None value before after is same = absurd (none-some value (sym is))
value_there map (Some key) value before after is same = ap (get map) same
