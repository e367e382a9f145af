-- The lists of levels through what an array's calls make of its arena.
use Rattle.std.proofs.Common.{◌≡◌, ℕ, suc, ◌<◌, true, List, [], ◌++◌, Option, None, Some, is_some, inl, inr, refl, sym, ap, subst, ◌∙◌, arith}
use Rattle.std.proofs.lemmas.Option.{none-some}
use Rattle.std.specs.FinMap.{FinMap, get, len}
use Rattle.judy_model.specs.Keys.{byte_order}
use Rattle.judy_sums.specs.Listed.{list_at}
use Rattle.judy_sl.specs.declared.arena.Arena.{Arena}
use Rattle.judy_sl.specs.declared.arena.Place.{Place}
use Rattle.judy_sl.specs.Pieces.{pieces, piece_of}
use Rattle.judy_sl.specs.World.{World, Node, gone, tail, level, lookup}
use Rattle.judy_sl.specs.WorldInvariants.{AllLed}
use Rattle.judy_sl.specs.Arenas.{world_of, map_of, IsArena, IsStrings}
use Rattle.judy_sl.specs.Behind.{map_behind}
use Rattle.judy_sl.specs.Places.{place_with}
use Rattle.judy_sl.specs.Ways.{IsFound, HasValue, seat_of, piece_at, passed_from, levels_passed}
use Rattle.judy_sl.specs.Grown.{IsAdded}
use Rattle.judy_sl.specs.Firsts.{beginning, AreFirsts}
use Rattle.judy_sl.specs.Listed.{place_of, Lists, AreListed, AreListedBut, StaysLed}
use Rattle.judy_sl.proofs.lemmas.pieces.OnWay.{pieces-head}
use Rattle.judy_sl.proofs.lemmas.seats.Changes.{split-front}
use Rattle.judy_sl.proofs.lemmas.seats.Keeping.{get-there}
use Rattle.judy_sl.proofs.lemmas.seats.Led.{KeepsEntries, keeps-none, keeps-insert, keeps-set}
use Rattle.judy_sl.proofs.lemmas.seats.Linked.{node_with, world-with_place}
use Rattle.judy_sl.proofs.lemmas.seats.Maps.{get-map, len-written}
use Rattle.judy_sl.proofs.lemmas.inserts.Written.{place-there, written-change}
use Rattle.judy_sl.proofs.lemmas.counts.KeysBehind.{rest-key}
use Rattle.judy_sl.proofs.lemmas.counts.PassedLevels.{passed-none}
use Rattle.judy_sl.proofs.lemmas.counts.Beginnings.{firsts_written}
use Rattle.judy_sl.proofs.lemmas.counts.FirstWays.{rooted}
use Rattle.judy_sl.proofs.lemmas.counts.LedLevels.{stays_kept}
use Rattle.judy_sl.proofs.lemmas.counts.ListChanges.{level_reached, keys_stay, key_comes, key_was}
use Rattle.judy_sl.proofs.lemmas.counts.ListWays.{many_level, come_but}
use Rattle.judy_sl.proofs.lemmas.counts.ListSteps.{listed_end}
use Rattle.judy_sl.specs.Strings.{IsString}

-- No list is right for any levels.
pub no_lists : (world : World) (lists : Lists) → lists ≡ [] → AreListed world lists
no_lists world lists none index list some = absurd (none-some list (sym (ap (λ (row : Lists). list_at row index) none) ∙ some))

-- ---- a key whose first piece was new

-- An entry is there, or it isn't.
no_entry : (arena : Arena) → IsArena arena → (piece : ℕ) → beginning (map_of arena) piece ≡ 0 → get arena.root.map piece ≡ None
no_entry arena is piece nothing = by (get arena.root.map piece) refl
  where
    by : (found : Option ℕ) → get arena.root.map piece ≡ found → get arena.root.map piece ≡ None
    by None e = e
    by (Some at) e =
        let some = rooted arena piece is (ap (λ (found : Option ℕ). is_some found) e) in
        let never : ⊥ = omega (arith, some, nothing) in
        absurd never

pub listed_tried : (arena after : Arena) → IsArena arena → AllLed (world_of arena) → (key : List ℕ) → IsString key → get (map_of arena) key ≡ None → beginning (map_of arena) (piece_of key) ≡ 0 →
    (place : Place) → IsAdded arena after key place → StaysLed arena after → (lists : Lists) → AreListed (world_of arena) lists → AreListed (world_of after) lists
listed_tried arena after is led key is_key none nothing place added stays lists listed =
    let head = pieces-head key in
    let passed : levels_passed (world_of arena) key ≡ [] = ap (passed_from (world_of arena) 0) head.1 ∙
    passed-none (world_of arena) 0 (piece_of key) head.0 (no_entry arena is (piece_of key) nothing) in
    listed_end true after lists key (subst (λ places. AreListedBut true after lists places key) passed
    (come_but arena after is led key is_key added.change (sym (get-map arena key is_key) ∙ none) stays lists listed))

-- ---- a value that is written

written_keeps : (node : Node) (piece : ℕ) (rest : List ℕ) (was value : ℕ) → HasValue node piece rest was → KeepsEntries node (node_with node piece value)
written_keeps gone piece rest was value has = absurd has
written_keeps (tail held kept) piece rest was value has = keeps-none (tail held kept) (node_with (tail held kept) piece value) (λ map e. cc)
written_keeps (level map) piece rest was value has = keeps-insert map piece value (λ at inner entry. inner has.1)

module _ {most longest : ℕ} (limit count : ℕ) (arena : Arena) (is : IsStrings most longest limit count arena) (key : List ℕ) (is_key : IsString key) (place : Place)
    (found : IsFound (world_of arena) key place) (value : ℕ) where
  abbrev after : Arena
  after = place_with arena place value

  written_stays : StaysLed arena after
  written_stays = stays_kept arena after (subst (λ (w : World). (seat : ℕ) → KeepsEntries (world_of arena seat) (w seat))
      (sym (world-with_place arena place value (place-there arena is.is_arena key place found)))
      (keeps-set (world_of arena) (seat_of place) (node_with (world_of arena (seat_of place)) (piece_at place) value)
      (written_keeps (world_of arena (seat_of place)) (piece_at place) found.rest found.value value found.has)))

  was_there : lookup (world_of arena) 0 (pieces key) ≡ Some found.value
  was_there = sym (get-map arena key is_key) ∙ get-there limit count arena is key is_key place found

  pub listed_slot : (lists : Lists) → AreListed (world_of arena) lists → AreListed (world_of after) lists
  listed_slot lists listed index list some =
      let at = place_of index in
      let right = listed index list some in
      let many = right.many in
      let was = many_level arena is.is_arena at (omega (arith, many)) in
      let change = written-change arena is.is_arena key place found value in
      let reached = level_reached arena after is.is_arena is.led key value change written_stays at was.0 was.1 was.2 in
      elim (split-front reached.front (pieces key)) [
        | inl on ↦
            let left = rest-key reached.front on.0 key reached.inner is_key on.1 in
            let whole : pieces key ≡ reached.front ++ pieces left.key = on.1 ∙ ap (λ ps. reached.front ++ ps) (sym left.spells) in
            let comes = key_comes arena after is.is_arena is.led key value change written_stays at was.0 was.1 was.2 left.key left.is_key whole in
            let held = key_was arena after is.is_arena is.led key value change written_stays at was.0 was.1 was.2 left.key left.is_key whole ∙ was_there in
            record {
              firsts = subst (λ (all : FinMap byte_order ℕ). AreFirsts all list) (sym comes)
                  (firsts_written (map_behind (world_of arena) (suc at)) left.key found.value value list held right.firsts);
              many = subst (λ n. 32 < n) (sym (ap (λ (all : FinMap byte_order ℕ). len all) comes ∙ len-written (map_behind (world_of arena) (suc at)) left.key found.value value held)) right.many;
            }
        | inr off ↦
            let same = keys_stay arena after is.is_arena is.led key value change written_stays at was.0 was.1 was.2 (λ rest e. off rest (sym e)) in
            record {
              firsts = subst (λ (all : FinMap byte_order ℕ). AreFirsts all list) (sym same) right.firsts;
              many = subst (λ (all : FinMap byte_order ℕ). 32 < len all) (sym same) right.many;
            }
      ]
