-- The lists of levels where a key has gone: those on its way are off by it.
use Rattle.std.proofs.Common.{◌≡◌, ◌≢◌, ℕ, zero, suc, ◌-◌, ◌<◌, ◌≤◌, ◌/◌, Bool, true, false, cond, List, [], ◌∷◌, ◌++◌, length, drop, take, Option, None, Some, is_some, inl, inr, refl, sym, ap, subst}
use Rattle.std.proofs.Common.{◌∙◌}
use Rattle.std.proofs.Common.{arith, ⊎_elim, true≢false}
use Rattle.std.specs.Ordering.{is_eq, eq_by_cmp}
use Rattle.std.specs.Cmp.{tied_itself}
use Rattle.std.proofs.lemmas.List.{append_cancel_left}
use Rattle.std.proofs.lemmas.Option.{none-some, same_Some}
use Rattle.std.specs.FinMap.{FinMap, get, insert, remove, contains_key, entries, find, len, len-entries, len-remove, get-entries, get-remove}
use Rattle.judy_model.specs.Keys.{word_order, byte_order}
use Rattle.judy_model.specs.Arrays.{ArrayOf}
use Rattle.judy_model.specs.Tables.{table}
use Rattle.judy_model.proofs.lemmas.maps.TableLemmas.{byte_order_total, table_some}
use Rattle.judy_sums.specs.Listed.{list_at}
use Rattle.judy_sl.specs.Children.{Child, Level, IsLevelChild}
use Rattle.judy_sl.specs.declared.arena.Arena.{Arena}
use Rattle.judy_sl.specs.Pieces.{pieces, ArePieces, AreInner}
use Rattle.judy_sl.specs.World.{World, Node, gone, tail, level, lookup, walk, step_node, step_entry}
use Rattle.judy_sl.specs.WorldInvariants.{IsWorld, AllLed}
use Rattle.judy_sl.specs.Arenas.{world_of, node_of, child_at, IsArena}
use Rattle.judy_sl.specs.Behind.{map_behind}
use Rattle.judy_sl.specs.Ways.{levels_passed}
use Rattle.judy_sl.specs.Counted.{keys_behind, IsAmong, AreOnce}
use Rattle.judy_sl.specs.Firsts.{AreFirsts}
use Rattle.judy_sl.specs.Grown.{IsChange}
use Rattle.judy_sl.specs.Listed.{place_of, Lists, IsListed, AreListed, KeepsKey, IsOff, AreOff, AreListedBut, StaysLed}
use Rattle.judy_sl.proofs.lemmas.pieces.PieceLemmas.{text_of_key, pieces_are, pieces_same}
use Rattle.judy_sl.proofs.lemmas.pieces.Ways.{walk-behind}
use Rattle.judy_sl.proofs.lemmas.scans.ScanLevels.{lookup_inner, lookup_absent, tail_only}
use Rattle.judy_sl.proofs.lemmas.seats.Changes.{split-front}
use Rattle.judy_sl.proofs.lemmas.counts.CountedAdded.{level-told}
use Rattle.judy_sl.proofs.lemmas.counts.KeptLevels.{IsReached, all-reached, reached-once}
use Rattle.judy_sl.proofs.lemmas.counts.KeysBehind.{found_after, keys_after, are-behind, keys-reached, keys-stay, keys-come}
use Rattle.judy_sl.proofs.lemmas.counts.KeysTold.{none_at}
use Rattle.judy_sl.proofs.lemmas.counts.PassedLevels.{once-front, once-passed, way-first}
use Rattle.judy_sl.proofs.lemmas.counts.ListedLevels.{level_place}
use Rattle.judy_sl.proofs.lemmas.counts.ListChanges.{level_reached, keys_stay, key_comes, key_was}
use Rattle.judy_sl.proofs.lemmas.counts.ListWays.{AreAll, all_along, many_level}
use Rattle.judy_sl.proofs.lemmas.pieces.Strings.{all_strings-all}
use Rattle.judy_sl.specs.Strings.{IsString, all_strings}

-- ---- two keys behind pieces

-- A map that isn't empty has a key.
some_key : (m : FinMap byte_order ℕ) → 1 ≤ len m → (key : List ℕ) × (value : ℕ) × (get m key ≡ Some value)
some_key m some = by (entries m) refl
  where
    by : (pairs : List (List ℕ × ℕ)) → entries m ≡ pairs → (key : List ℕ) × (value : ℕ) × (get m key ≡ Some value)
    by [] e =
        let long = len-entries m ∙ ap length e in
        let never : ⊥ = omega (arith, long, some) in
        absurd never
    by (pair ∷ rest) e = (
      pair.0,
      pair.1,
      get-entries m pair.0
          ∙ ap (find byte_order pair.0) e
          ∙ ap (λ r. cond (is_eq r) (Some pair.1) (find byte_order pair.0 rest)) (tied_itself byte_order_total pair.0),
    )

-- One with two has another one.
other_key : (m : FinMap byte_order ℕ) → 2 ≤ len m → (one : List ℕ) (value : ℕ) → get m one ≡ Some value → (other : List ℕ) × (more : ℕ) × (get m other ≡ Some more) × (one ≢ other)
other_key m many one value held =
    let less = len-remove byte_order_total m one ∙ ap (λ (b : Bool). cond b (len m - 1) (len m)) (ap (λ (found : Option ℕ). is_some found) held) in
    let found = some_key (remove m one) (omega (arith, less, many)) in
    by found.0 found.1 (sym (get-remove byte_order_total m one found.0) ∙ found.2)
  where
    by : (other : List ℕ) (more : ℕ) → cond (eq_by_cmp byte_order other one) None (get m other) ≡ Some more → (other : List ℕ) × (more : ℕ) × (get m other ≡ Some more) × (one ≢ other)
    by other more is = by_tie (eq_by_cmp byte_order other one) refl is
      where
        by_tie : (b : Bool) → eq_by_cmp byte_order other one ≡ b → cond b None (get m other) ≡ Some more → (other : List ℕ) × (more : ℕ) × (get m other ≡ Some more) × (one ≢ other)
        by_tie true e is = absurd (none-some more is)
        by_tie false e is = (
          other,
          more,
          is,
          λ same. true≢false (sym (ap is_eq (tied_itself byte_order_total one)) ∙ ap (λ key. eq_by_cmp byte_order key one) same ∙ e),
        )

-- Pieces behind which two keys are found lead to a level.
module _ (world : World) (one other : List ℕ) (is_one : IsString one) (is_other : IsString other) (apart : one ≢ other) (value more : ℕ) where
  abbrev pub Ends : ℕ → List ℕ → Type 0
  Ends seat front = (end : ℕ) × (walk world seat front ≡ Some end) × (map : FinMap word_order ℕ) × (world end ≡ level map)

  -- No tail has both.
  no_tail : (seat : ℕ) (front held : List ℕ) (kept : ℕ) → world seat ≡ tail held kept → lookup world seat (front ++ pieces one) ≡ Some value → lookup world seat (front ++ pieces other) ≡ Some more → ⊥
  no_tail seat front held kept e first second =
      let same = sym (tail_only world seat held kept e (front ++ pieces one) value first) ∙ tail_only world seat held kept e (front ++ pieces other) more second in
      apart (pieces_same one other (text_of_key one is_one) (text_of_key other is_other) (append_cancel_left front (pieces one) (pieces other) same))

  no_place : (seat : ℕ) (front : List ℕ) → world seat ≡ gone → lookup world seat (front ++ pieces one) ≡ Some value → ⊥
  no_place seat front e first = none-some value (sym (none_at world seat e (front ++ pieces one)) ∙ first)

  leads_here : (seat : ℕ) → lookup world seat (pieces one) ≡ Some value → lookup world seat (pieces other) ≡ Some more → (node : Node) → world seat ≡ node → Ends seat []
  leads_here seat first second gone e = absurd (no_place seat [] e first)
  leads_here seat first second (tail held kept) e = absurd (no_tail seat [] held kept e first second)
  leads_here seat first second (level map) e = (seat, refl, map, e)

  module _ (seat piece : ℕ) (front : List ℕ) (inner : AreInner front) (first : lookup world seat (piece ∷ front ++ pieces one) ≡ Some value)
      (second : lookup world seat (piece ∷ front ++ pieces other) ≡ Some more)
      (go : (at : ℕ) → lookup world (suc at) (front ++ pieces one) ≡ Some value → lookup world (suc at) (front ++ pieces other) ≡ Some more → Ends (suc at) front) where
    by_found : (map : FinMap word_order ℕ) → world seat ≡ level map → (found : Option ℕ) → get map piece ≡ found → Ends seat (piece ∷ front)
    by_found map e None n = absurd (none-some value (sym (lookup_absent world seat map e piece (front ++ pieces one) n) ∙ first))
    by_found map e (Some at) n =
        let on = go at
        (sym (lookup_inner world seat map e piece at (front ++ pieces one) n (are-behind front (pieces one) inner (pieces_are one (text_of_key one is_one)))) ∙ first)
        (sym (lookup_inner world seat map e piece at (front ++ pieces other) n (are-behind front (pieces other) inner (pieces_are other (text_of_key other is_other)))) ∙ second) in (
          on.0,
          ap (λ node. step_node node piece (λ found. walk world (suc found) front)) e ∙ ap (λ o. step_entry o (λ found. walk world (suc found) front)) n ∙ on.1,
          on.2,
          on.3,
        )

    leads_there : (node : Node) → world seat ≡ node → Ends seat (piece ∷ front)
    leads_there gone e = absurd (no_place seat (piece ∷ front) e first)
    leads_there (tail held kept) e = absurd (no_tail seat (piece ∷ front) held kept e first second)
    leads_there (level map) e = by_found map e (get map piece) refl

  leads : (seat : ℕ) (front : List ℕ) → AreInner front → lookup world seat (front ++ pieces one) ≡ Some value → lookup world seat (front ++ pieces other) ≡ Some more → Ends seat front
  leads seat [] inner first second = leads_here seat first second (world seat) refl
  leads seat (piece ∷ front) inner first second =
      leads_there seat piece front inner.1 first second (λ at one_on other_on. leads (suc at) front inner.1 one_on other_on) (world seat) refl

two_lead : (world : World) (front : List ℕ) → AreInner front → 2 ≤ keys_after world front → (end : ℕ) × (walk world 0 front ≡ Some end) × (map : FinMap word_order ℕ) × (world end ≡ level map)
two_lead world front inner many =
    let first = some_key (table all_strings (found_after world front)) (omega (arith, many)) in
    let second = other_key (table all_strings (found_after world front)) many first.0 first.1 first.2 in
    let there = table_some all_strings-all (found_after world front) first.0 first.1 first.2 in
    let here = table_some all_strings-all (found_after world front) second.0 second.1 second.2 in
    leads world first.0 second.0 there.0 here.0 second.3 first.1 second.1 0 front inner there.1 here.1

-- ---- a key that has gone

module _ (before after : Arena) (is : IsArena before) (is_after : IsArena after) (led : AllLed (world_of before)) (led_after : AllLed (world_of after))
    (key : List ℕ) (is_key : IsString key) (value : ℕ)
    (back : IsChange (world_of after) (world_of before) (pieces key) (Some value)) (none : lookup (world_of after) 0 (pieces key) ≡ None) (stays : StaysLed after before)
    (lists : Lists) (listed : AreListed (world_of before) lists) where
  -- No fewer keys than that less one are left behind the pieces of a level.
  left_after : (front : List ℕ) → AreInner front → 32 < keys_after (world_of before) front → 2 ≤ keys_after (world_of after) front
  left_after front inner many = elim (split-front front (pieces key)) [
    | inl on ↦ let one = keys-come (world_of after) (world_of before) key value back front inner is_key none on.0 on.1 in omega (arith, one, many)
    | inr off ↦ let same = keys-stay (world_of after) (world_of before) key value back front inner (λ rest e. off rest (sym e)) in omega (arith, same, many)
  ]

  -- So a level with a list is one still.
  module _ (at : ℕ) (many : 32 < keys_behind (world_of before) (suc at)) where
    was : (told : ℕ) × (words : ArrayOf word_order) × (child_at before at ≡ Level told words)
    was = many_level before is at (omega (arith, many))

    reached : IsReached (world_of before) (suc at)
    reached = all-reached (world_of before) is.behind is.is_world led at (λ none_is. let g : level was.1.map ≡ gone = sym (ap node_of was.2) ∙ none_is in cc)

    ends : (end : ℕ) × (walk (world_of after) 0 reached.front ≡ Some end) × (map : FinMap word_order ℕ) × (world_of after end ≡ level map)
    ends =
        let all = keys-reached (world_of before) reached.front (suc at) reached.way in
        two_lead (world_of after) reached.front reached.inner (left_after reached.front reached.inner (omega (arith, all, many)))

    its_end : (end : ℕ) → walk (world_of after) 0 reached.front ≡ Some end → (map : FinMap word_order ℕ) → world_of after end ≡ level map → end ≡ suc at
    its_end zero way map e =
        let nothing : [] ≡ reached.front = sym is_after.is_world.first ∙ walk-behind (world_of after) is_after.behind is_after.is_world 0 reached.front 0 reached.inner way ∙
        ap (λ place. place ++ reached.front) is_after.is_world.first in
        let here : Some 0 ≡ Some (suc at) = ap (walk (world_of before) 0) nothing ∙ reached.way in
        same_Some 0 (suc at) here
    its_end (suc k) way map e =
        let there = level-told (child_at after k) map e in
        same_Some (suc k) (suc at) (sym ((stays k there.0 there.1 there.2).1 reached.front reached.inner way) ∙ reached.way)

    pub still_level : (told : ℕ) × (words : ArrayOf word_order) × (child_at after at ≡ Level told words)
    still_level = level-told (child_at after at) ends.2 (ap (world_of after) (sym (its_end ends.0 ends.1 ends.2 ends.3)) ∙ ends.3)

  lost_each : (at : ℕ) (map : FinMap word_order ℕ) → world_of before (suc at) ≡ level map → (front rest : List ℕ) → AreInner front → walk (world_of before) 0 front ≡ Some (suc at) → IsString rest →
      pieces key ≡ front ++ pieces rest → IsOff false after lists at rest
  lost_each at map is_level front rest inner way is_rest parts =
      let old = level-told (child_at before at) map is_level in
      let place = level_place before at old.0 old.1 old.2 in
      let its : (list : FinMap word_order ℕ) → list_at lists (at / 256) ≡ Some list → IsListed (world_of before) at list
      = λ list some. subst (λ k. IsListed (world_of before) k list) place (listed (at / 256) list some) in
      record {
        index = place;
        there = λ list some. let now = still_level at (its list some).many in subst IsLevelChild (sym now.2) tt;
        list = λ list some.
            let right = its list some in
            let now = still_level at right.many in
            let there = level_reached after before is_after led_after key value back stays at now.0 now.1 now.2 in
            let moved : IsReached (world_of before) (suc at) = record { front = there.front; inner = there.inner; way = (stays at now.0 now.1 now.2).1 there.front there.inner there.way } in
            let same = reached-once (world_of before) is.behind is.is_world (suc at) (record { front = front; inner = inner; way = way }) moved in
            let whole : pieces key ≡ there.front ++ pieces rest = parts ∙ ap (λ ps. ps ++ pieces rest) same in
            let comes = key_comes after before is_after led_after key value back stays at now.0 now.1 now.2 rest is_rest whole in
            record {
              value = value;
              firsts = subst (λ (all : FinMap byte_order ℕ). AreFirsts all list) comes right.firsts;
              absent = key_was after before is_after led_after key value back stays at now.0 now.1 now.2 rest is_rest whole ∙ none;
            };
      }

  off_front : (count : ℕ) (places rest : List ℕ) → AreAll (world_of before) key (IsOff false after lists) lost_each places rest → AreOff false after lists (take count places) rest
  off_front zero places rest all = tt
  off_front (suc count) [] rest all = tt
  off_front (suc count) (at ∷ places) rest all = (all.0, all.2, off_front count places (drop 8 rest) all.3)

  pub lost_but : (count : ℕ) → ((at : ℕ) (map : FinMap word_order ℕ) (front rest : List ℕ) → world_of after (suc at) ≡ level map → AreInner front → walk (world_of after) 0 front ≡ Some (suc at) →
      pieces key ≡ front ++ rest → IsAmong (take count (levels_passed (world_of before) key)) at) → AreListedBut false after lists (take count (levels_passed (world_of before) key)) key
  lost_but count among = record {
    once = once-front count (levels_passed (world_of before) key) (once-passed (world_of before) is.behind is.is_world key is_key);
    off = off_front count (levels_passed (world_of before) key) key
        (all_along (world_of before) key (IsOff false after lists) lost_each (length key) 0 [] key (omega arith) tt refl is_key refl);
    others = λ index list some apart. other index list (listed index list some) apart;
  }
    where
      other : (index : ℕ) (list : FinMap word_order ℕ) → IsListed (world_of before) (place_of index) list →
          (IsAmong (take count (levels_passed (world_of before) key)) (place_of index) → ⊥) → IsListed (world_of after) (place_of index) list
      other index list right apart =
          let at = place_of index in
          let now = still_level at right.many in
          let there = level_reached after before is_after led_after key value back stays at now.0 now.1 now.2 in
          let same = keys_stay after before is_after led_after key value back stays at now.0 now.1 now.2
          (λ rest e. apart (among at now.1.map there.front rest (ap node_of now.2) there.inner there.way (sym e))) in
          record {
            firsts = subst (λ (all : FinMap byte_order ℕ). AreFirsts all list) same right.firsts;
            many = subst (λ (all : FinMap byte_order ℕ). 32 < len all) same right.many;
          }
