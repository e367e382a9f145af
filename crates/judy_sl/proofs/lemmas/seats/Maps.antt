-- An arena as the map of its keys.
use Rattle.std.proofs.Common.{◌≡◌, ◌≢◌, ℕ, zero, suc, ◌+◌, ◌/◌, Bool, true, false, List, [], ◌++◌, get_or, cond, is_some, Option, None, Some, refl, sym, ap, subst, ◌∙◌, arith}
use Rattle.std.proofs.lemmas.Option.{none-some}
use Rattle.std.specs.FinMap.{FinMap, get, empty, insert, remove, len, get-empty, len-insert}
use Rattle.judy_model.specs.Keys.{word_order, byte_order}
use Rattle.judy_model.specs.Arrays.{ArrayOf, empty_array}
use Rattle.judy_model.proofs.lemmas.maps.TableLemmas.{byte_order_total, get-table, get-table_bad, none_at, table_none, table_insert, table_remove}
use Rattle.judy_sl.specs.Children.{Free, is_level, level_child, tail_child}
use Rattle.judy_tails.specs.Tails.{TailLists, is_long, tail_at, no_tails}
use Rattle.judy_sl.specs.LevelLists.{LevelParts}
use Rattle.judy_sl.specs.declared.arena.Arena.{Arena}
use Rattle.judy_sl.specs.Pieces.{pieces, piece_of, SpellKey}
use Rattle.judy_sl.specs.World.{gone, tail, level, lookup, at_entry}
use Rattle.judy_sl.specs.WorldInvariants.{FitsBehind, AllLed}
use Rattle.judy_sl.specs.Arenas.{world_of, node_of, child_at, map_of, HasText, IsArena}
use Rattle.judy_sl.proofs.lemmas.pieces.PieceLemmas.{text_of_key, pieces_are, pieces_same}
use Rattle.judy_sl.proofs.lemmas.pieces.OnWay.{pieces-head}
use Rattle.judy_sl.specs.Grown.{IsChange}
use Rattle.judy_sl.proofs.lemmas.pieces.Strings.{all_strings-all}
use Rattle.judy_sl.specs.Strings.{IsString}

module _ (arena : Arena) (key : List ℕ) where
  -- The map has what is found under the pieces of a key.
  pub get-map : IsString key → get (map_of arena) key ≡ lookup (world_of arena) 0 (pieces key)
  get-map is = get-table all_strings-all (λ k. lookup (world_of arena) 0 (pieces k)) key is

  -- Where a key wouldn't be found, there is nothing.
  pub get-map_none : (IsString key → lookup (world_of arena) 0 (pieces key) ≡ None) → get (map_of arena) key ≡ None
  get-map_none none = none_at all_strings-all (λ k. lookup (world_of arena) 0 (pieces k)) key none

  -- And nothing under what is no key.
  pub get-map_bad : (IsString key → ⊥) → get (map_of arena) key ≡ None
  get-map_bad bad = get-table_bad all_strings-all (λ k. lookup (world_of arena) 0 (pieces k)) key bad

module _ (arena other : Arena) (key : List ℕ) (is : IsString key) where
  else_where : (new : Option ℕ) → IsChange (world_of arena) (world_of other) (pieces key) new → (k : List ℕ) → IsString k → k ≢ key →
      lookup (world_of other) 0 (pieces k) ≡ lookup (world_of arena) 0 (pieces k)
  else_where new change k is_k ne = change.elsewhere (pieces k) (pieces_are k (text_of_key k is_k)) (λ e. ne (pieces_same k key (text_of_key k is_k) (text_of_key key is) e))

  -- Another value at one key is a write of it.
  pub map_written : (value : ℕ) → IsChange (world_of arena) (world_of other) (pieces key) (Some value) → map_of other ≡ insert (map_of arena) key value
  map_written value change =
      table_insert all_strings-all (λ k. lookup (world_of arena) 0 (pieces k)) (λ k. lookup (world_of other) 0 (pieces k)) key value is change.at_key (else_where (Some value) change)

  -- No value any more at one key is a delete of it.
  pub map_removed : IsChange (world_of arena) (world_of other) (pieces key) None → map_of other ≡ remove (map_of arena) key
  map_removed change =
      table_remove all_strings-all (λ k. lookup (world_of arena) 0 (pieces k)) (λ k. lookup (world_of other) 0 (pieces k)) key (λ _. change.at_key) (else_where None change)

-- An arena without an entry.
module _ (arena : Arena) (no_levels : arena.levels.slots ≡ []) (nothing : arena.tails ≡ no_tails) where
  pub child-none : (at : ℕ) → child_at arena at ≡ Free
  child-none at =
      ap (λ (slots : List (Option LevelParts)). cond (is_level at) (level_child (get_or slots (at / 256) None)) (tail_child (tail_at arena.tails at))) no_levels
      ∙ ap (λ (tails : TailLists). cond (is_level at) Free (tail_child (tail_at tails at))) nothing
      ∙ ap (λ (found : Option (List ℕ × ℕ)). cond (is_level at) Free (tail_child found)) (none-at (is_long at))
      ∙ either (is_level at)
    where
      none-at : (b : Bool) → ◌≡◌ {A = Option (List ℕ × ℕ)} (cond b None None) None
      none-at true = refl
      none-at false = refl

      either : (b : Bool) → cond b Free Free ≡ Free
      either true = refl
      either false = refl

module _ (arena : Arena) (no_levels : arena.levels.slots ≡ []) (nothing : arena.tails ≡ no_tails) (no_root : arena.root ≡ empty_array 18446744073709551615) where
  root-none : (piece : ℕ) → get arena.root.map piece ≡ None
  root-none piece = ap (λ (words : ArrayOf word_order). get words.map piece) no_root ∙ get-empty word_order piece

  levels-none : (seat : ℕ) (map : FinMap word_order ℕ) → world_of arena seat ≡ level map → FitsBehind (world_of arena) (λ s. []) [] map
  levels-none zero map e =
      let same : arena.root.map ≡ map = cc in
      let none : (piece : ℕ) → get map piece ≡ None = (λ piece. ap (λ (m : FinMap word_order ℕ). get m piece) (sym same) ∙ root-none piece) in
      record {
        leads = λ piece found entry inner. absurd (none-some found (sym (none piece) ∙ entry));
        ends = λ piece value entry final. absurd (none-some value (sym (none piece) ∙ entry));
        short = omega arith;
      }
  levels-none (suc at) map e = absurd (let g : gone ≡ level map = sym (ap node_of (child-none arena no_levels nothing at)) ∙ e in cc)

  tails-none : (seat : ℕ) (held : List ℕ) (value : ℕ) → world_of arena seat ≡ tail held value → SpellKey ([] ++ held)
  tails-none zero held value e = absurd (cc)
  tails-none (suc at) held value e = absurd (let g : gone ≡ tail held value = sym (ap node_of (child-none arena no_levels nothing at)) ∙ e in cc)

  pub empty-arena : IsArena arena
  empty-arena = record {
    behind = λ seat. [];
    is_world = record {
      first = refl;
      levels = levels-none;
      used = λ at map e. absurd (let g : gone ≡ level map = sym (ap node_of (child-none arena no_levels nothing at)) ∙ e in cc);
      tails = tails-none;
    };
    texts = λ at. subst HasText (sym (child-none arena no_levels nothing at)) tt;
  }

  pub empty-led : AllLed (world_of arena)
  empty-led at there = absurd (there (ap node_of (child-none arena no_levels nothing at)))

  pub empty-map : map_of arena ≡ empty
  empty-map = table_none all_strings-all (λ k. lookup (world_of arena) 0 (pieces k)) (λ key is.
      let h = pieces-head key in
      ap (lookup (world_of arena) 0) h.1 ∙ ap (λ o. at_entry o h.0 (λ at. lookup (world_of arena) (suc at) h.0)) (root-none (piece_of key)))

-- A value written at a key that is there leaves the number of keys.
pub len-written : (map : FinMap byte_order ℕ) (key : List ℕ) (was value : ℕ) → get map key ≡ Some was → len (insert map key value) ≡ len map
len-written map key was value there = len-insert byte_order_total map key value ∙ ap (λ (o : Option ℕ). cond (is_some o) (len map) (len map + 1)) there

-- Put in at a key that isn't there it makes one more.
pub len-added : (map : FinMap byte_order ℕ) (key : List ℕ) (value : ℕ) → get map key ≡ None → len (insert map key value) ≡ len map + 1
len-added map key value none = len-insert byte_order_total map key value ∙ ap (λ (o : Option ℕ). cond (is_some o) (len map) (len map + 1)) none
