-- What levels tell of the keys behind them stays where a value is written, or nothing is.
use Rattle.std.proofs.Common.{◌≡◌, ℕ, suc, ◌%◌, cond, true, false, ⊎_elim, List, [], ◌∷◌, Option, None, Some, is_some, refl, sym, ap, ◌∙◌, subst}
use Rattle.std.specs.Ordering.{eq_by_cmp}
use Rattle.std.specs.Cmp.{eq_by_cmp_equiv}
use Rattle.std.specs.FinMap.{FinMap, get, insert, contains_key, contains_key-keys, keys, len}
use Rattle.std.proofs.lemmas.Bool.{cases_eq}
use Rattle.std.proofs.lemmas.Map.Keys.{IsDistinct-from_sorted}
use Rattle.std.proofs.lemmas.Map.Made.{length-from_same_keys}
use Rattle.judy_model.specs.Keys.{word_order, byte_order}
use Rattle.judy_model.specs.Tables.{table}
use Rattle.judy_model.proofs.lemmas.maps.KeysLemmas.{keys_ascending, length-keys}
use Rattle.judy_model.proofs.lemmas.maps.TableLemmas.{byte_order_total, get-table, table_some}
use Rattle.judy_sl.specs.Children.{Child, Free, Tail, Level}
use Rattle.judy_sl.specs.declared.arena.Arena.{Arena}
use Rattle.judy_sl.specs.declared.arena.Place.{Place}
use Rattle.judy_sl.specs.declared.arena.Place.TheVariants.{Root, Below}
use Rattle.judy_sl.specs.Pieces.{pieces, IsFinal, IsInner, ArePieces}
use Rattle.judy_sl.specs.World.{World, Node, gone, tail, level, lookup, at_node, at_entry}
use Rattle.judy_sl.specs.Arenas.{world_of, child_at, IsArena}
use Rattle.judy_sl.specs.Children.{child_with}
use Rattle.judy_sl.specs.Places.{IsPlace, place_with}
use Rattle.judy_tails.specs.Tails.{no_tails}
use Rattle.judy_sl.specs.Ways.{IsFound, HasValue, seat_of, piece_at}
use Rattle.judy_sl.specs.Counted.{keys_behind, Same, LevelTells, AreCounted}
use Rattle.judy_sl.proofs.lemmas.pieces.PieceLemmas.{text_of_key, pieces_are}
use Rattle.judy_sl.proofs.lemmas.seats.Seats.{cond-same, cond-other}
use Rattle.judy_sl.proofs.lemmas.seats.Linked.{node_with, can-with, child_at-same, child_at-other, world-with_place, get-insert_here, get-insert_off}
use Rattle.judy_sl.proofs.lemmas.inserts.Written.{place-there}
use Rattle.judy_sl.proofs.lemmas.seats.Maps.{child-none}
use Rattle.judy_sl.proofs.lemmas.pieces.Strings.{all_strings-all}
use Rattle.judy_sl.specs.Strings.{IsString, all_strings}

-- Maps of the same keys are as long.
pub len_alike : (one other : FinMap byte_order ℕ) → ((key : List ℕ) → contains_key one key ≡ contains_key other key) → len one ≡ len other
len_alike one other alike =
    sym (length-keys one)
    ∙ length-from_same_keys (eq_by_cmp_equiv byte_order_total) (keys one) (keys other) (IsDistinct-from_sorted byte_order (keys one) (keys_ascending one))
    (IsDistinct-from_sorted byte_order (keys other) (keys_ascending other)) (λ key. sym (contains_key-keys one key) ∙ alike key ∙ contains_key-keys other key)
    ∙ length-keys other

-- So are the tables of functions that answer for the same keys.
pub table_alike : (one other : List ℕ → Option ℕ) → ((key : List ℕ) → IsString key → is_some (one key) ≡ is_some (other key)) → len (table all_strings one) ≡ len (table all_strings other)
table_alike one other alike = len_alike (table all_strings one) (table all_strings other) (λ key. by key (get (table all_strings one) key) (get (table all_strings other) key) refl refl)
  where
    by : (key : List ℕ) (left right : Option ℕ) → get (table all_strings one) key ≡ left → get (table all_strings other) key ≡ right →
        is_some (get (table all_strings one) key) ≡ is_some (get (table all_strings other) key)
    by key None None is else = ap (λ (found : Option ℕ). is_some found) (is ∙ sym else)
    by key (Some value) right is else =
        let there = table_some all_strings-all one key value is in
        ap (λ (found : Option ℕ). is_some found) (get-table all_strings-all one key there.0) ∙ alike key there.0 ∙
        ap (λ (found : Option ℕ). is_some found) (sym (get-table all_strings-all other key there.0))
    by key None (Some value) is else =
        let there = table_some all_strings-all other key value else in
        ap (λ (found : Option ℕ). is_some found) (get-table all_strings-all one key there.0) ∙ alike key there.0 ∙
        ap (λ (found : Option ℕ). is_some found) (sym (get-table all_strings-all other key there.0))

-- ---- seats that hold the same keys

-- The entries are under the same pieces, and those that lead on lead to the same places.
pub record EntriesAlike (one other : FinMap word_order ℕ) : Type 0 where
  pub ends : (piece : ℕ) → IsFinal piece → is_some (get one piece) ≡ is_some (get other piece)
  pub leads : (piece : ℕ) → IsInner piece → get one piece ≡ get other piece

-- Two nodes have the same keys.
abbrev pub NodesAlike : Node → Node → Type 0
NodesAlike gone gone = Unit {0}
NodesAlike gone (tail held value) = ⊥
NodesAlike gone (level map) = ⊥
NodesAlike (tail held value) gone = ⊥
NodesAlike (tail held value) (tail kept more) = held ≡ kept
NodesAlike (tail held value) (level map) = ⊥
NodesAlike (level map) gone = ⊥
NodesAlike (level map) (tail held value) = ⊥
NodesAlike (level map) (level other) = EntriesAlike map other

alike_itself : (node : Node) → NodesAlike node node
alike_itself gone = tt
alike_itself (tail held value) = refl
alike_itself (level map) = record { ends = λ piece final. refl; leads = λ piece inner. refl }

end_some : (found : Option ℕ) (go : ℕ → Option ℕ) → is_some (at_entry found [] go) ≡ is_some found
end_some None go = refl
end_some (Some value) go = refl

on_some : (found : Option ℕ) (next : ℕ) (rest : List ℕ) (go on : ℕ → Option ℕ) → ((at : ℕ) → is_some (go at) ≡ is_some (on at)) →
    is_some (at_entry found (next ∷ rest) go) ≡ is_some (at_entry found (next ∷ rest) on)
on_some None next rest go on each = refl
on_some (Some value) next rest go on each = each value

tail_some : (held kept : List ℕ) (value more : ℕ) (ps : List ℕ) → held ≡ kept → is_some (cond (eq_by_cmp byte_order held ps) (Some value) None) ≡
    is_some (cond (eq_by_cmp byte_order kept ps) (Some more) None)
tail_some held kept value more ps same =
    ap (λ bytes. is_some (cond (eq_by_cmp byte_order bytes ps) (Some value) None)) same
    ∙ elim (eq_by_cmp byte_order kept ps) as (λ b. is_some (cond b (Some value) None) ≡ is_some (cond b (Some more) None)) [ true ↦ refl | false ↦ refl ]

last_alike : (one other : Node) → NodesAlike one other → (piece : ℕ) → IsFinal piece → (go on : ℕ → Option ℕ) → is_some (at_node one piece [] go) ≡ is_some (at_node other piece [] on)
last_alike gone gone alike piece final go on = refl
last_alike gone (tail held value) alike piece final go on = absurd alike
last_alike gone (level map) alike piece final go on = absurd alike
last_alike (tail held value) gone alike piece final go on = absurd alike
last_alike (tail held value) (tail kept more) alike piece final go on = tail_some held kept value more (piece ∷ []) alike
last_alike (tail held value) (level map) alike piece final go on = absurd alike
last_alike (level map) gone alike piece final go on = absurd alike
last_alike (level map) (tail held value) alike piece final go on = absurd alike
last_alike (level map) (level other) alike piece final go on = end_some (get map piece) go ∙ alike.ends piece final ∙ sym (end_some (get other piece) on)

more_alike : (one other : Node) → NodesAlike one other → (piece next : ℕ) (rest : List ℕ) → IsInner piece → (go on : ℕ → Option ℕ) → ((at : ℕ) → is_some (go at) ≡ is_some (on at)) →
    is_some (at_node one piece (next ∷ rest) go) ≡ is_some (at_node other piece (next ∷ rest) on)
more_alike gone gone alike piece next rest inner go on each = refl
more_alike gone (tail held value) alike piece next rest inner go on each = absurd alike
more_alike gone (level map) alike piece next rest inner go on each = absurd alike
more_alike (tail held value) gone alike piece next rest inner go on each = absurd alike
more_alike (tail held value) (tail kept more) alike piece next rest inner go on each = tail_some held kept value more (piece ∷ next ∷ rest) alike
more_alike (tail held value) (level map) alike piece next rest inner go on each = absurd alike
more_alike (level map) gone alike piece next rest inner go on each = absurd alike
more_alike (level map) (tail held value) alike piece next rest inner go on each = absurd alike
more_alike (level map) (level other) alike piece next rest inner go on each =
    on_some (get map piece) next rest go on each ∙ ap (λ found. is_some (at_entry found (next ∷ rest) on)) (alike.leads piece inner)

module _ (world other : World) (alike : (seat : ℕ) → NodesAlike (world seat) (other seat)) where
  lookup_alike : (ps : List ℕ) → ArePieces ps → (seat : ℕ) → is_some (lookup world seat ps) ≡ is_some (lookup other seat ps)
  lookup_alike [] are seat = absurd are
  lookup_alike (piece ∷ []) are seat = last_alike (world seat) (other seat) (alike seat) piece are (λ found. lookup world (suc found) []) (λ found. lookup other (suc found) [])
  lookup_alike (piece ∷ next ∷ rest) are seat =
      more_alike (world seat) (other seat) (alike seat) piece next rest are.0 (λ found. lookup world (suc found) (next ∷ rest)) (λ found. lookup other (suc found) (next ∷ rest))
      (λ found. lookup_alike (next ∷ rest) are.1 (suc found))

  -- As many keys stand behind each seat.
  pub behind_alike : (seat : ℕ) → keys_behind world seat ≡ keys_behind other seat
  behind_alike seat = table_alike (λ rest. lookup world seat (pieces rest)) (λ rest. lookup other seat (pieces rest)) (λ key is. lookup_alike (pieces key) (pieces_are key (text_of_key key is)) seat)

-- ---- what is written

-- Another value at a key that ends in a level leaves its keys.
written_entries : (map : FinMap word_order ℕ) (piece was value : ℕ) → IsFinal piece → get map piece ≡ Some was → EntriesAlike map (insert map piece value)
written_entries map piece was value final there = record {
  ends = λ other last. ⊎_elim
      (λ same. ap (λ word. is_some (get map word)) same ∙ ap (λ (found : Option ℕ). is_some found) there ∙ ap (λ (found : Option ℕ). is_some found) (sym (get-insert_here map piece value)) ∙
      ap (λ word. is_some (get (insert map piece value) word)) (sym same))
      (λ apart. ap (λ (found : Option ℕ). is_some found) (sym (get-insert_off map piece value other apart)))
      (cases_eq other piece);
  leads = λ other inner. sym (get-insert_off map piece value other (λ same. inner (ap (λ word. word % 256) same ∙ final)));
}

written_node : (node : Node) (piece : ℕ) (rest : List ℕ) (was value : ℕ) → HasValue node piece rest was → NodesAlike node (node_with node piece value)
written_node gone piece rest was value has = absurd has
written_node (tail held kept) piece rest was value has = refl
written_node (level map) piece rest was value has = written_entries map piece was value has.1 has.2

-- A child tells what it did.
told_with : (child : Child) (piece value keys : ℕ) → LevelTells Same child keys → LevelTells Same (child_with child piece value) keys
told_with Free piece value keys tells = tt
told_with (Tail rest) piece value keys tells = tt
told_with (Level told words) piece value keys tells = tells

told_place : (arena : Arena) (place : Place) (value : ℕ) → IsPlace arena place → (keys : ℕ → ℕ) → ((at : ℕ) → LevelTells Same (child_at arena at) (keys at)) →
    (at : ℕ) → LevelTells Same (child_at (place_with arena place value) at) (keys at)
told_place arena (Root piece) value is keys told at = told at
told_place arena (Below there piece) value is keys told at = ⊎_elim
    (λ same. subst (λ (child : Child). LevelTells Same child (keys at)) (sym (child_at-same arena there (child_with (child_at arena there) piece value) (can-with arena there piece value is) at same))
    (told_with (child_at arena there) piece value (keys at) (subst (λ k. LevelTells Same (child_at arena k) (keys at)) same (told at))))
    (λ apart. subst (λ (child : Child). LevelTells Same child (keys at)) (sym (child_at-other arena there (child_with (child_at arena there) piece value)
    (can-with arena there piece value is) at apart)) (told at))
    (cases_eq at there)

module _ (arena : Arena) (is : IsArena arena) (key : List ℕ) (place : Place) (found : IsFound (world_of arena) key place) (value : ℕ) where
  there : IsPlace arena place
  there = place-there arena is key place found

  seats_alike : (seat : ℕ) → NodesAlike (world_of arena seat) (world_of (place_with arena place value) seat)
  seats_alike seat =
      let node = node_with (world_of arena (seat_of place)) (piece_at place) value in
      subst (λ (world : World). NodesAlike (world_of arena seat) (world seat)) (sym (world-with_place arena place value there)) (⊎_elim
      (λ same. subst (NodesAlike (world_of arena seat)) (sym (cond-same (world_of arena) (seat_of place) node seat same)) (subst (λ at. NodesAlike (world_of arena at) node) (sym same)
      (written_node (world_of arena (seat_of place)) (piece_at place) found.rest found.value value found.has)))
      (λ apart. subst (NodesAlike (world_of arena seat)) (sym (cond-other (world_of arena) (seat_of place) node seat apart)) (alike_itself (world_of arena seat)))
      (cases_eq seat (seat_of place)))

  -- A value is written where the key's value stands.
  pub counted_written : AreCounted arena → AreCounted (place_with arena place value)
  counted_written counted at =
      subst (LevelTells Same (child_at (place_with arena place value) at)) (behind_alike (world_of arena) (world_of (place_with arena place value)) seats_alike (suc at))
      (told_place arena place value there (λ k. keys_behind (world_of arena) (suc k)) counted at)

-- An arena without a child tells nothing.
pub counted_new : (arena : Arena) → arena.levels.slots ≡ [] → arena.tails ≡ no_tails → AreCounted arena
counted_new arena no_levels nothing at = subst (λ (child : Child). LevelTells Same child (keys_behind (world_of arena) (suc at))) (sym (child-none arena no_levels nothing at)) tt
