-- What one key more makes of the keys behind a level.
use Rattle.std.proofs.Common.{◌≡◌, ◌≢◌, ℕ, suc, List, ◌++◌, None, Some, refl, sym, ap, ◌∙◌}
use Rattle.std.proofs.lemmas.List.{append_cancel_left}
use Rattle.std.specs.FinMap.{FinMap, get, insert}
use Rattle.judy_model.specs.Keys.{word_order, byte_order}
use Rattle.judy_model.specs.Arrays.{ArrayOf}
use Rattle.judy_model.specs.Tables.{table}
use Rattle.judy_model.proofs.lemmas.maps.TableLemmas.{get-table, table_insert}
use Rattle.judy_sl.specs.Children.{Level}
use Rattle.judy_sl.specs.declared.arena.Arena.{Arena}
use Rattle.judy_sl.specs.Pieces.{pieces}
use Rattle.judy_sl.specs.World.{gone, level, lookup, walk}
use Rattle.judy_sl.specs.WorldInvariants.{AllLed}
use Rattle.judy_sl.specs.Arenas.{world_of, node_of, child_at, IsArena}
use Rattle.judy_sl.specs.Behind.{map_behind}
use Rattle.judy_sl.specs.Grown.{IsChange}
use Rattle.judy_sl.specs.Listed.{StaysLed}
use Rattle.judy_sl.proofs.lemmas.pieces.PieceLemmas.{text_of_key, pieces_same}
use Rattle.judy_sl.proofs.lemmas.counts.KeptLevels.{IsReached, all-reached}
use Rattle.judy_sl.proofs.lemmas.counts.KeysBehind.{found_after, table_alike, map-reached, off-key}
use Rattle.judy_sl.proofs.lemmas.pieces.Strings.{all_strings-all}
use Rattle.judy_sl.specs.Strings.{all_strings, IsString}

module _ (before after : Arena) (is : IsArena before) (led : AllLed (world_of before)) (key : List ℕ) (value : ℕ)
    (change : IsChange (world_of before) (world_of after) (pieces key) (Some value)) (stays : StaysLed before after)
    (at told : ℕ) (was : ArrayOf word_order) (was_is : child_at before at ≡ Level told was) where
  -- The level is reached by the same pieces,
  pub level_reached : IsReached (world_of before) (suc at)
  level_reached = all-reached (world_of before) is.behind is.is_world led at (λ gone_is. let g : level was.map ≡ gone = sym (ap node_of was_is) ∙ gone_is in cc)

  abbrev front : List ℕ
  front = level_reached.front

  map_before : map_behind (world_of before) (suc at) ≡ table all_strings (found_after (world_of before) front)
  map_before = map-reached (world_of before) front (suc at) level_reached.way

  map_after : map_behind (world_of after) (suc at) ≡ table all_strings (found_after (world_of after) front)
  map_after = map-reached (world_of after) front (suc at) ((stays at told was was_is).1 front level_reached.inner level_reached.way)

  -- and off the key's way has the same keys behind it.
  pub keys_stay : ((rest : List ℕ) → front ++ rest ≢ pieces key) → map_behind (world_of after) (suc at) ≡ map_behind (world_of before) (suc at)
  keys_stay off =
      map_after
      ∙ table_alike (found_after (world_of after) front) (found_after (world_of before) front)
      (λ rest is_rest. off-key (world_of before) (world_of after) key value change front level_reached.inner rest is_rest (off (pieces rest)))
      ∙ sym map_before

  -- On its way the rest of it comes in.
  module _ (rest : List ℕ) (is_rest : IsString rest) (parts : pieces key ≡ front ++ pieces rest) where
    pub key_comes : map_behind (world_of after) (suc at) ≡ insert (map_behind (world_of before) (suc at)) rest value
    key_comes =
        map_after
        ∙ table_insert all_strings-all (found_after (world_of before) front) (found_after (world_of after) front) rest value is_rest (ap (lookup (world_of after) 0) (sym parts) ∙ change.at_key)
        (λ r is_r ne. off-key (world_of before) (world_of after) key value change front level_reached.inner r is_r (λ same. ne (
        pieces_same r rest (text_of_key r is_r) (text_of_key rest is_rest) (append_cancel_left front (pieces r) (pieces rest) (same ∙ parts)))))
        ∙ ap (λ (all : FinMap byte_order ℕ). insert all rest value) (sym map_before)

    pub key_was : get (map_behind (world_of before) (suc at)) rest ≡ lookup (world_of before) 0 (pieces key)
    key_was =
        ap (λ (all : FinMap byte_order ℕ). get all rest) map_before
        ∙ get-table all_strings-all (found_after (world_of before) front) rest is_rest
        ∙ ap (lookup (world_of before) 0) (sym parts)
