-- The lists of levels where a key has come in: those on its way are off by it.
use Rattle.std.proofs.Common.{◌≡◌, ℕ, zero, suc, ◌<◌, ◌≤◌, ◌/◌, true, List, [], ◌∷◌, ◌++◌, length, drop, Option, None, Some, inl, inr, refl, sym, ap, subst, ◌∙◌, arith}
use Rattle.std.proofs.lemmas.Bool.{cases_lt}
use Rattle.std.proofs.lemmas.List.{append_assoc, length-drop}
use Rattle.std.proofs.lemmas.Option.{none-some}
use Rattle.std.specs.FinMap.{FinMap, get, len, len-empty}
use Rattle.judy_model.specs.Keys.{word_order, byte_order}
use Rattle.judy_model.specs.Arrays.{ArrayOf}
use Rattle.judy_sl.specs.Children.{Child, Free, Tail, Level}
use Rattle.judy_sl.specs.declared.arena.Arena.{Arena}
use Rattle.judy_sl.specs.Pieces.{pieces, piece_of, AreInner}
use Rattle.judy_sl.specs.World.{World, Node, gone, tail, level, lookup, walk}
use Rattle.judy_sl.specs.WorldInvariants.{AllLed}
use Rattle.judy_sl.specs.Arenas.{world_of, node_of, child_at, IsArena}
use Rattle.judy_sl.specs.Behind.{map_behind}
use Rattle.judy_sl.specs.Stepped.{entry_under}
use Rattle.judy_sl.specs.Ways.{passed_there, passed_from, levels_passed}
use Rattle.judy_sl.specs.Counted.{keys_behind, IsAmong}
use Rattle.judy_sl.specs.Firsts.{AreFirsts}
use Rattle.judy_sl.specs.Grown.{IsChange}
use Rattle.judy_sl.specs.Listed.{place_of, Lists, IsListed, AreListed, IsOff, AreOff, AreListedBut, StaysLed}
use Rattle.judy_sl.proofs.lemmas.pieces.PieceLemmas.{text_of_key, text-drop, key_of_text, piece-IsInner}
use Rattle.judy_sl.proofs.lemmas.pieces.Ways.{pieces_short, pieces_long, walk-more}
use Rattle.judy_sl.proofs.lemmas.pieces.OnWay.{pieces-head, inner-more}
use Rattle.judy_sl.proofs.lemmas.seats.Maps.{len-added}
use Rattle.judy_sl.proofs.lemmas.counts.CountedAdded.{level-told}
use Rattle.judy_sl.proofs.lemmas.counts.KeptLevels.{reached-once}
use Rattle.judy_sl.proofs.lemmas.counts.KeysTold.{gone_empty, tail_told}
use Rattle.judy_sl.proofs.lemmas.counts.PassedLevels.{passed-last, passed-none, passed-step, once-passed, way-among}
use Rattle.judy_sl.proofs.lemmas.counts.ListedLevels.{level_place}
use Rattle.judy_sl.proofs.lemmas.counts.ListChanges.{level_reached, keys_stay, key_comes, key_was}
use Rattle.judy_sl.specs.Strings.{IsString}

-- ---- where keys stand

-- A place behind which more than one key stands has a level.
pub many_level : (arena : Arena) → IsArena arena → (at : ℕ) → 2 ≤ keys_behind (world_of arena) (suc at) → (told : ℕ) × (words : ArrayOf word_order) × (child_at arena at ≡ Level told words)
many_level arena is at many = by (child_at arena at) refl
  where
    by : (child : Child) → child_at arena at ≡ child → (told : ℕ) × (words : ArrayOf word_order) × (child_at arena at ≡ Level told words)
    by Free e =
        let none = ap (λ (m : FinMap byte_order ℕ). len m) (gone_empty (world_of arena) (suc at) (ap node_of e)) ∙ len-empty byte_order ℕ in
        let never : ⊥ = omega (arith, none, many) in
        absurd never
    by (Tail rest) e =
        let one = tail_told arena is at rest e in
        let never : ⊥ = omega (arith, one, many) in
        absurd never
    by (Level told words) e = (told, words, e)

-- An entry that leads on is one of a level.
pub entry_level : (node : Node) (piece at : ℕ) → entry_under node piece ≡ Some at → (map : FinMap word_order ℕ) × (node ≡ level map) × (get map piece ≡ Some at)
entry_level gone piece at entry = absurd (none-some at entry)
entry_level (tail held value) piece at entry = absurd (none-some at entry)
entry_level (level map) piece at entry = (map, refl, entry)

-- The rest of a key is one.
key_drop : (rest : List ℕ) → IsString rest → IsString (drop 8 rest)
key_drop rest is =
    let within = is.is_bytes_key.within_limit in
    let long = length-drop 8 rest in
    key_of_text (drop 8 rest) (text-drop 8 rest (text_of_key rest is)) (omega arith)

-- ---- the levels on a way

module _ (world : World) (key : List ℕ) (Holds : ℕ → List ℕ → Type 0)
    (each : (at : ℕ) (map : FinMap word_order ℕ) → world (suc at) ≡ level map → (front rest : List ℕ) → AreInner front → walk world 0 front ≡ Some (suc at) → IsString rest →
    pieces key ≡ front ++ pieces rest → Holds at rest) where
  abbrev pub AreAll : List ℕ → List ℕ → Type 0
  AreAll [] rest = Unit {0}
  AreAll (at ∷ places) rest = (8 ≤ length rest) × (places ≡ passed_from world (suc at) (pieces (drop 8 rest))) × Holds at (drop 8 rest) × AreAll places (drop 8 rest)

  -- None is where the rest ends.
  along_end : (seat : ℕ) (rest : List ℕ) → length rest < 8 → AreAll (passed_from world seat (pieces rest)) rest
  along_end seat rest ends = subst (λ places. AreAll places rest) (sym (ap (passed_from world seat) (pieces_short rest ends) ∙ passed-last world seat (piece_of rest))) tt

  -- One step.
  module _ (seat : ℕ) (front rest : List ℕ) (inner : AreInner front) (way : walk world 0 front ≡ Some seat) (is_rest : IsString rest) (parts : pieces key ≡ front ++ pieces rest)
      (long : 8 ≤ length rest) (go : (at : ℕ) → AreInner (front ++ piece_of rest ∷ []) → walk world 0 (front ++ piece_of rest ∷ []) ≡ Some (suc at) → IsString (drop 8 rest) →
      pieces key ≡ (front ++ piece_of rest ∷ []) ++ pieces (drop 8 rest) → AreAll (passed_from world (suc at) (pieces (drop 8 rest))) (drop 8 rest)) where
    head : (more : List ℕ) × (pieces (drop 8 rest) ≡ piece_of (drop 8 rest) ∷ more)
    head = pieces-head (drop 8 rest)

    whole : pieces rest ≡ piece_of rest ∷ piece_of (drop 8 rest) ∷ head.0
    whole = pieces_long rest long ∙ ap (λ ps. piece_of rest ∷ ps) head.1

    by_node : (at : ℕ) → entry_under (world seat) (piece_of rest) ≡ Some at → (node : Node) → world (suc at) ≡ node →
        AreAll (passed_there node at (passed_from world (suc at) (piece_of (drop 8 rest) ∷ head.0))) rest
    by_node at entry gone e = tt
    by_node at entry (tail held value) e = tt
    by_node at entry (level map) e =
        let there = entry_level (world seat) (piece_of rest) at entry in
        let its = inner-more front (piece_of rest) inner (piece-IsInner rest (text_of_key rest is_rest) long) in
        let goes = walk-more world 0 front seat there.0 (piece_of rest) at way there.1 there.2 in
        let key_rest = key_drop rest is_rest in
        let cut : pieces key ≡ (front ++ piece_of rest ∷ []) ++ pieces (drop 8 rest) = parts ∙ ap (λ ps. front ++ ps) (pieces_long rest long) ∙
        sym (append_assoc front (piece_of rest ∷ []) (pieces (drop 8 rest))) in (
          long,
          ap (passed_from world (suc at)) (sym head.1),
          each at map e (front ++ piece_of rest ∷ []) (drop 8 rest) its goes key_rest cut,
          subst (λ ps. AreAll (passed_from world (suc at) ps) (drop 8 rest)) head.1 (go at its goes key_rest cut),
        )

    along_on : (found : Option ℕ) → entry_under (world seat) (piece_of rest) ≡ found → AreAll (passed_from world seat (pieces rest)) rest
    along_on None e = subst (λ places. AreAll places rest) (sym (ap (passed_from world seat) whole ∙ passed-none world seat (piece_of rest) (piece_of (drop 8 rest) ∷ head.0) e)) tt
    along_on (Some at) e =
        subst (λ places. AreAll places rest) (sym (ap (passed_from world seat) whole ∙ passed-step world seat (piece_of rest) (piece_of (drop 8 rest)) head.0 at e))
        (by_node at e (world (suc at)) refl)

  pub all_along : (most seat : ℕ) (front rest : List ℕ) → length rest ≤ most → AreInner front → walk world 0 front ≡ Some seat → IsString rest → pieces key ≡ front ++ pieces rest →
      AreAll (passed_from world seat (pieces rest)) rest
  all_along zero seat front rest short inner way is_rest parts = along_end seat rest (omega (arith, short))
  all_along (suc most) seat front rest short inner way is_rest parts = elim (cases_lt (length rest) 8) [
    | inl ends ↦ along_end seat rest ends
    | inr long ↦ along_on seat front rest inner way is_rest parts long (λ at its goes key_rest cut. all_along most (suc at) (front ++ piece_of rest ∷ []) (drop 8 rest)
        (let less = length-drop 8 rest in omega (arith, less, short, long)) its goes key_rest cut) (entry_under (world seat) (piece_of rest)) refl
  ]

-- ---- a key that has come in

module _ (before after : Arena) (is : IsArena before) (led : AllLed (world_of before)) (key : List ℕ) (is_key : IsString key)
    (change : IsChange (world_of before) (world_of after) (pieces key) (Some 0)) (none : lookup (world_of before) 0 (pieces key) ≡ None) (stays : StaysLed before after)
    (lists : Lists) (listed : AreListed (world_of before) lists) where
  come_each : (at : ℕ) (map : FinMap word_order ℕ) → world_of before (suc at) ≡ level map → (front rest : List ℕ) → AreInner front → walk (world_of before) 0 front ≡ Some (suc at) → IsString rest →
      pieces key ≡ front ++ pieces rest → IsOff true after lists at rest
  come_each at map is_level front rest inner way is_rest parts =
      let was = level-told (child_at before at) map is_level in
      let place = level_place before at was.0 was.1 was.2 in
      let reached = level_reached before after is led key 0 change stays at was.0 was.1 was.2 in
      let same = reached-once (world_of before) is.behind is.is_world (suc at) (record { front = front; inner = inner; way = way }) reached in
      let whole : pieces key ≡ reached.front ++ pieces rest = parts ∙ ap (λ ps. ps ++ pieces rest) same in
      let comes = key_comes before after is led key 0 change stays at was.0 was.1 was.2 rest is_rest whole in
      let absent = key_was before after is led key 0 change stays at was.0 was.1 was.2 rest is_rest whole ∙ none in
      record {
        index = place;
        there = (stays at was.0 was.1 was.2).0;
        list = λ list some.
            let right = subst (λ k. IsListed (world_of before) k list) place (listed (at / 256) list some) in
            let more = ap (λ (m : FinMap byte_order ℕ). len m) comes ∙ len-added (map_behind (world_of before) (suc at)) rest 0 absent in
            let many = right.many in
            record { all = map_behind (world_of before) (suc at); firsts = right.firsts; many = omega (arith, more, many); absent = absent; becomes = comes };
      }

  pub come_but : AreListedBut true after lists (levels_passed (world_of before) key) key
  come_but = record {
    once = once-passed (world_of before) is.behind is.is_world key is_key;
    off = off_from (levels_passed (world_of before) key) key (all_along (world_of before) key (IsOff true after lists) come_each (length key) 0 [] key (omega arith) tt refl is_key refl);
    others = λ index list some apart. other index list (listed index list some) apart;
  }
    where
      off_from : (places rest : List ℕ) → AreAll (world_of before) key (IsOff true after lists) come_each places rest → AreOff true after lists places rest
      off_from [] rest all = tt
      off_from (at ∷ places) rest all = (all.0, all.2, off_from places (drop 8 rest) all.3)

      other : (index : ℕ) (list : FinMap word_order ℕ) → IsListed (world_of before) (place_of index) list → (IsAmong (levels_passed (world_of before) key) (place_of index) → ⊥) →
          IsListed (world_of after) (place_of index) list
      other index list right apart =
          let at = place_of index in
          let many = right.many in
          let was = many_level before is at (omega (arith, many)) in
          let reached = level_reached before after is led key 0 change stays at was.0 was.1 was.2 in
          let same = keys_stay before after is led key 0 change stays at was.0 was.1 was.2
          (λ rest e. apart (way-among (world_of before) is.behind is.is_world key is_key reached.front rest at was.1.map reached.inner reached.way (sym e) (ap node_of was.2))) in
          record {
            firsts = subst (λ (all : FinMap byte_order ℕ). AreFirsts all list) (sym same) right.firsts;
            many = subst (λ (all : FinMap byte_order ℕ). 32 < len all) (sym same) right.many;
          }
