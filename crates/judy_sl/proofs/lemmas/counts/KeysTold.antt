-- How many keys stand behind what a place has, and behind an entry of a level.
use Rattle.std.proofs.Common.{◌≡◌, ◌≢◌, ℕ, suc, ◌/◌, ◌%◌, true, false, cond, List, [], ◌∷◌, ◌++◌, map, length, Option, None, Some, refl, sym, ap, ◌∙◌, subst, true≢false}
use Rattle.std.specs.Ordering.{is_eq, eq_by_cmp}
use Rattle.std.specs.Cmp.{tied_itself}
use Rattle.std.specs.FinMap.{entries, get, empty, from_sorted, same_map, get-empty, get-from_sorted, entries-from_sorted, len-entries}
use Rattle.std.proofs.lemmas.Bool.{eq-eqb, ne_eqb}
use Rattle.std.proofs.lemmas.Option.{none-some}
use Rattle.slab.specs.Slab as slab
use Rattle.judy_model.specs.Arrays.{ArrayOf}
use Rattle.judy_model.specs.Keys.{word_order, byte_order}
use Rattle.judy_model.proofs.lemmas.orders.Orders.{same_from_tie}
use Rattle.judy_model.proofs.lemmas.maps.TableLemmas.{byte_order_total, byte_order_same, get-table, table_some}
use Rattle.judy_sl.specs.declared.arena.Arena.{Arena}
use Rattle.judy_sl.specs.Children.{Child, Free, Tail, Level, is_level, level_child, tail_child, keys_told, IsLevelChild}
use Rattle.judy_tails.specs.Tails.{tail_at}
use Rattle.judy_sl.specs.Pieces.{pieces, piece_bytes, IsFinal, IsInner, IsText}
use Rattle.judy_sl.specs.World.{World, gone, tail, at_node, lookup}
use Rattle.judy_sl.specs.Arenas.{world_of, child_at, node_of, HasText, IsArena}
use Rattle.judy_sl.specs.Behind.{map_behind, entry_keys}
use Rattle.judy_sl.specs.Counted.{keys_behind, LevelTells, Same, AreCounted, StandsWith}
use Rattle.judy_sl.proofs.lemmas.pieces.PieceLemmas.{text_of_key, key_of_text, pieces_are, pieces_same}
use Rattle.judy_sl.proofs.lemmas.pieces.OnWay.{pieces-head}
use Rattle.judy_sl.proofs.lemmas.scans.ScanLevels.{tail_only, at_tail}
use Rattle.judy_sl.proofs.lemmas.scans.ScanEnds.{text_behind}
use Rattle.judy_sl.proofs.lemmas.pieces.Strings.{all_strings-all}
use Rattle.judy_sl.specs.Strings.{IsString}

-- What the map behind a seat holds is found there.
pub held_behind : (world : World) (seat : ℕ) (rest : List ℕ) (value : ℕ) → get (map_behind world seat) rest ≡ Some value → IsString rest × (lookup world seat (pieces rest) ≡ Some value)
held_behind world seat rest value held = table_some all_strings-all (λ key. lookup world seat (pieces key)) rest value held

-- ---- a free place

pub none_at : (world : World) (seat : ℕ) → world seat ≡ gone → (ps : List ℕ) → lookup world seat ps ≡ None
none_at world seat is [] = refl
none_at world seat is (piece ∷ rest) = ap (λ node. at_node node piece rest (λ found. lookup world (suc found) rest)) is

-- Behind a free place stands no key.
pub gone_empty : (world : World) (seat : ℕ) → world seat ≡ gone → map_behind world seat ≡ empty
gone_empty world seat is = same_map byte_order_total byte_order_same (map_behind world seat) empty (λ key. by key (get (map_behind world seat) key) refl ∙ sym (get-empty byte_order key))
  where
    by : (key : List ℕ) (found : Option ℕ) → get (map_behind world seat) key ≡ found → get (map_behind world seat) key ≡ None
    by key None held = held
    by key (Some value) held = absurd (none-some value (sym (none_at world seat is (pieces key)) ∙ (held_behind world seat key value held).1))

-- ---- a tail

module _ (arena : Arena) (is : IsArena arena) (at : ℕ) (held : List ℕ) (value : ℕ) (here : world_of arena (suc at) ≡ tail (pieces held) value) (text : IsText held) where
  -- Its text is a key.
  pub tail_key : IsString held
  tail_key =
      let key = is.is_world.tails (suc at) (pieces held) value here in
      let head = pieces-head held in
      let whole : pieces key.key ≡ is.behind (suc at) ++ _ ∷ head.0 = key.spells ∙ ap (λ ps. is.behind (suc at) ++ ps) head.1 in
      let one = text_behind (is.behind (suc at)) _ head.0 key.key (text_of_key key.key key.is_key) key.is_key.is_bytes_key.within_limit whole in
      let same : one.bytes ≡ held = pieces_same one.bytes held one.text text (one.spells ∙ sym head.1) in
      subst IsString same (key_of_text one.bytes one.text one.within)

  tail_get : (key : List ℕ) → get (map_behind (world_of arena) (suc at)) key ≡ cond (eq_by_cmp byte_order key held) (Some value) None
  tail_get key = elim (eq_by_cmp byte_order key held) as (λ b. eq_by_cmp byte_order key held ≡ b → get (map_behind (world_of arena) (suc at)) key ≡ cond b (Some value) None) [
    | true ↦ λ tied.
        ap (get (map_behind (world_of arena) (suc at))) (same_from_tie byte_order_same key held tied)
        ∙ get-table all_strings-all (λ rest. lookup (world_of arena) (suc at) (pieces rest)) held tail_key
        ∙ at_tail (world_of arena) (suc at) (pieces held) value here (pieces_are held text)
    | false ↦ λ apart. by (get (map_behind (world_of arena) (suc at)) key) refl apart
  ] refl
    where
      by : (found : Option ℕ) → get (map_behind (world_of arena) (suc at)) key ≡ found → eq_by_cmp byte_order key held ≡ false → get (map_behind (world_of arena) (suc at)) key ≡ None
      by None is apart = is
      by (Some other) is apart =
          let there = held_behind (world_of arena) (suc at) key other is in
          let same = pieces_same held key text (text_of_key key there.0) (tail_only (world_of arena) (suc at) (pieces held) value here (pieces key) other there.1) in
          absurd (true≢false (sym (ap (eq_by_cmp byte_order key) same ∙ ap is_eq (tied_itself byte_order_total key)) ∙ apart))

  -- Behind it stands just that key.
  pub tail_entries : entries (map_behind (world_of arena) (suc at)) ≡ (held, value) ∷ []
  tail_entries =
      let one : List (List ℕ × ℕ) = (held, value) ∷ [] in
      ap entries (same_map byte_order_total byte_order_same (map_behind (world_of arena) (suc at)) (from_sorted one) (λ key. tail_get key ∙ sym (get-from_sorted byte_order one key tt)))
      ∙ entries-from_sorted byte_order one tt

-- ---- a place

module _ (arena : Arena) (is : IsArena arena) (at : ℕ) where
  -- Behind a tail stands one key.
  pub tail_told : (rest : List ℕ × ℕ) → child_at arena at ≡ Tail rest → keys_behind (world_of arena) (suc at) ≡ 1
  tail_told rest here = len-entries (map_behind (world_of arena) (suc at)) ∙ ap length (tail_entries arena is at rest.0 rest.1 (ap node_of here) (subst HasText here (is.texts at)))

  -- What stands at a place that isn't one for levels is a tail, so one key stands behind it.
  pub lone_told : is_level at ≡ false → world_of arena (suc at) ≢ gone → keys_behind (world_of arena) (suc at) ≡ 1
  lone_told apart there = by (tail_at arena.tails at) (ap (λ b. cond b (level_child (slab.get arena.levels (at / 256))) (tail_child (tail_at arena.tails at))) apart)
    where
      by : (found : Option (List ℕ × ℕ)) → child_at arena at ≡ tail_child found → keys_behind (world_of arena) (suc at) ≡ 1
      by None here = absurd (there (ap node_of here))
      by (Some rest) here = tail_told rest here

module _ (arena : Arena) (counted : AreCounted arena) (at keys : ℕ) (words : ArrayOf word_order) (here : child_at arena at ≡ Level keys words) where
  -- A level tells how many keys stand behind it.
  pub level_told : keys ≡ keys_behind (world_of arena) (suc at)
  level_told = subst (λ child. LevelTells Same child (keys_behind (world_of arena) (suc at))) here (counted at)

  -- So it stands with that number.
  pub level_stands : StandsWith (world_of arena) words.map keys
  level_stands = record { seat = suc at; is_level = ap node_of here; told = level_told }

-- A level's number may be asked for,
pub level_asked : (arena : Arena) (at keys : ℕ) (words : ArrayOf word_order) → child_at arena at ≡ Level keys words → IsLevelChild (child_at arena at)
level_asked arena at keys words here = subst IsLevelChild (sym here) tt

-- and is that of the keys there.
told_by : (child : Child) → IsLevelChild child → (keys : ℕ) → LevelTells Same child keys → keys_told child ≡ keys
told_by Free is keys tells = absurd is
told_by (Tail rest) is keys tells = absurd is
told_by (Level told words) is keys tells = tells

pub level_counted : (arena : Arena) → AreCounted arena → (at : ℕ) → IsLevelChild (child_at arena at) → keys_told (child_at arena at) ≡ keys_behind (world_of arena) (suc at)
level_counted arena counted at is = told_by (child_at arena at) is (keys_behind (world_of arena) (suc at)) (counted at)

-- ---- an entry of a level

-- Pairs whose keys have the bytes before them.
abbrev pub led_pairs : List ℕ → List (List ℕ × ℕ) → List (List ℕ × ℕ)
led_pairs front pairs = map (λ pair. (front ++ pair.0, pair.1)) pairs

module _ (world : World) (entry : ℕ × ℕ) where
  -- The keys behind a final piece are one.
  pub final_keys : IsFinal entry.0 → entry_keys world entry ≡ (piece_bytes entry.0, entry.1) ∷ []
  final_keys final = ap (λ b. cond b ((piece_bytes entry.0, entry.1) ∷ []) (led_pairs (piece_bytes entry.0) (entries (map_behind world (suc entry.1))))) (eq-eqb (entry.0 % 256) 0 final)

  -- Those behind an inner piece are those behind its child, with the piece's bytes before them.
  pub inner_keys : IsInner entry.0 → entry_keys world entry ≡ led_pairs (piece_bytes entry.0) (entries (map_behind world (suc entry.1)))
  inner_keys inner = ap (λ b. cond b ((piece_bytes entry.0, entry.1) ∷ []) (led_pairs (piece_bytes entry.0) (entries (map_behind world (suc entry.1))))) (ne_eqb (entry.0 % 256) 0 inner)

  led_length : (front : List ℕ) (pairs : List (List ℕ × ℕ)) → length (led_pairs front pairs) ≡ length pairs
  led_length front [] = refl
  led_length front (pair ∷ rest) = ap suc (led_length front rest)

  pub inner_count : IsInner entry.0 → length (entry_keys world entry) ≡ keys_behind world (suc entry.1)
  inner_count inner = ap length (inner_keys inner) ∙ led_length (piece_bytes entry.0) (entries (map_behind world (suc entry.1))) ∙ sym (len-entries (map_behind world (suc entry.1)))
