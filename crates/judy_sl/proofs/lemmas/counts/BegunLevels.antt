-- Behind which levels on the way of a key that has come in others begin with its next piece.
use Rattle.std.proofs.Common.{◌≡◌, ℕ, suc, ◌+◌, ◌<◌, ◌≤◌, Bool, true, false, cond, List, [], ◌∷◌, ◌++◌, length, drop, Option, None, Some, inl, inr, refl, sym, ap, subst, ◌∙◌, arith}
use Rattle.std.proofs.lemmas.Bool.{cases_lt, lt-ltb}
use Rattle.std.proofs.lemmas.Option.{none-some}
use Rattle.std.specs.FinMap.{FinMap, get}
use Rattle.judy_model.specs.Keys.{word_order, byte_order}
use Rattle.judy_sums.specs.Levels.{part_of}
use Rattle.judy_sl.specs.declared.arena.Arena.{Arena}
use Rattle.judy_sl.specs.declared.arena.Place.{Place}
use Rattle.judy_sl.specs.declared.arena.Way.{Way}
use Rattle.judy_sl.specs.declared.arena.Way.TheVariants.{At, Gap, Clash}
use Rattle.judy_sl.specs.Pieces.{pieces, piece_of, AreInner}
use Rattle.judy_sl.specs.World.{World, Node, gone, tail, level, lookup, walk, at_node, at_entry}
use Rattle.judy_sl.specs.WorldInvariants.{AllLed}
use Rattle.judy_sl.specs.Arenas.{world_of, child_at, IsArena}
use Rattle.judy_sl.specs.Behind.{map_behind, entry_keys}
use Rattle.judy_sl.specs.Stepped.{entry_under}
use Rattle.judy_sl.specs.Ways.{seat_of, piece_at, left_of, passed_from, levels_passed, IsGap, IsClash, IsWay, IsNew, clashes}
use Rattle.judy_sl.specs.Firsts.{beginning}
use Rattle.judy_sl.specs.Grown.{IsChange}
use Rattle.judy_sl.specs.Listed.{others_begin, IsBegun, AreBegun, StaysLed}
use Rattle.judy_sl.specs.Strings.{IsString}
use Rattle.judy_sl.proofs.lemmas.pieces.PieceLemmas.{text_of_key, piece-IsInner}
use Rattle.judy_sl.proofs.lemmas.pieces.Ways.{pieces_short, pieces_long, lookup-walk, step-parts}
use Rattle.judy_sl.proofs.lemmas.pieces.OnWay.{pieces-head}
use Rattle.judy_sl.proofs.lemmas.counts.Beginnings.{beginning_itself}
use Rattle.judy_sl.proofs.lemmas.counts.CountedAdded.{level-told}
use Rattle.judy_sl.proofs.lemmas.counts.FirstSums.{beginning_part}
use Rattle.judy_sl.proofs.lemmas.counts.KeptLevels.{reached-once}
use Rattle.judy_sl.proofs.lemmas.counts.ListChanges.{level_reached, key_comes, key_was}
use Rattle.judy_sl.proofs.lemmas.counts.ListWays.{AreAll, all_along}
use Rattle.judy_sl.proofs.lemmas.counts.LoneKeys.{level_some}
use Rattle.judy_sl.proofs.lemmas.counts.PassedLevels.{passed-none, passed-level, passed-tail}

-- ---- whether a way comes to a tail

abbrev tail_there : Node → Bool → Bool
tail_there gone more = false
tail_there (tail held value) more = true
tail_there (level map) more = more

abbrev tail_under : Option ℕ → List ℕ → (ℕ → Bool) → Bool
tail_under None rest go = false
tail_under (Some at) [] go = false
tail_under (Some at) (piece ∷ rest) go = go at

abbrev pub meets_tail : World → ℕ → List ℕ → Bool
meets_tail world seat [] = false
meets_tail world seat (piece ∷ rest) = tail_under (entry_under (world seat) piece) rest (λ at. tail_there (world (suc at)) (meets_tail world (suc at) rest))

module _ (world : World) (seat piece next : ℕ) (rest : List ℕ) (at : ℕ) (entry : entry_under (world seat) piece ≡ Some at) where
  meets-step : meets_tail world seat (piece ∷ next ∷ rest) ≡ tail_there (world (suc at)) (meets_tail world (suc at) (next ∷ rest))
  meets-step = ap (λ found. tail_under found (next ∷ rest) (λ to. tail_there (world (suc to)) (meets_tail world (suc to) (next ∷ rest)))) entry

  meets-level : (map : FinMap word_order ℕ) → world (suc at) ≡ level map → meets_tail world seat (piece ∷ next ∷ rest) ≡ meets_tail world (suc at) (next ∷ rest)
  meets-level map is = meets-step ∙ ap (λ node. tail_there node (meets_tail world (suc at) (next ∷ rest))) is

  meets-here : (held : List ℕ) (value : ℕ) → world (suc at) ≡ tail held value → meets_tail world seat (piece ∷ next ∷ rest) ≡ true
  meets-here held value is = meets-step ∙ ap (λ node. tail_there node (meets_tail world (suc at) (next ∷ rest))) is

meets-none : (world : World) (seat piece : ℕ) (rest : List ℕ) → entry_under (world seat) piece ≡ None → meets_tail world seat (piece ∷ rest) ≡ false
meets-none world seat piece rest none = ap (λ found. tail_under found rest (λ to. tail_there (world (suc to)) (meets_tail world (suc to) rest))) none

-- It does from the end of a way of levels as from its seat.
meets-walk : (world : World) (seat : ℕ) (front : List ℕ) (end : ℕ) (map : FinMap word_order ℕ) (piece : ℕ) (rest : List ℕ) → walk world seat front ≡ Some end → world end ≡ level map →
    meets_tail world seat (front ++ piece ∷ rest) ≡ meets_tail world end (piece ∷ rest)
meets-walk world seat [] end map piece rest way is =
    let same : seat ≡ end = cc in
    ap (λ s. meets_tail world s (piece ∷ rest)) same
meets-walk world seat (first ∷ []) end map piece rest way is =
    let step = step-parts (world seat) first (λ found. walk world (suc found) []) end way in
    let same : suc step.found ≡ end = (let goes : Some (suc step.found) ≡ Some end = step.goes in cc) in
    let entry : entry_under (world seat) first ≡ Some step.found = ap (λ node. entry_under node first) step.is ∙ step.entry in
    meets-level world seat first piece rest step.found entry map (ap world same ∙ is) ∙ ap (λ s. meets_tail world s (piece ∷ rest)) same
meets-walk world seat (first ∷ second ∷ front) end map piece rest way is =
    let step = step-parts (world seat) first (λ found. walk world (suc found) (second ∷ front)) end way in
    let then = step-parts (world (suc step.found)) second (λ found. walk world (suc found) front) end step.goes in
    let entry : entry_under (world seat) first ≡ Some step.found = ap (λ node. entry_under node first) step.is ∙ step.entry in
    meets-level world seat first second (front ++ piece ∷ rest) step.found entry then.map then.is
    ∙ meets-walk world (suc step.found) (second ∷ front) end map piece rest step.goes is

-- The way of a new key tells it.
meets-gap : (world : World) (key : List ℕ) (place : Place) (left : ℕ) → IsGap world key place left → meets_tail world 0 (pieces key) ≡ false
meets-gap world key place left gap =
    let head = pieces-head (left_of key left) in
    let piece = piece_of (left_of key left) in
    ap (meets_tail world 0) (gap.leads.parts ∙ ap (λ ps. gap.leads.front ++ ps) head.1)
    ∙ meets-walk world 0 gap.leads.front (seat_of place) gap.map piece head.0 gap.leads.way gap.is_level
    ∙ meets-none world (seat_of place) piece head.0 (ap (λ node. entry_under node piece) gap.is_level ∙ ap (get gap.map) (sym gap.next) ∙ gap.absent)

meets-clash : (world : World) (key : List ℕ) (from : Place) (at left : ℕ) → IsClash world key from at left → meets_tail world 0 (pieces key) ≡ true
meets-clash world key from at left clash =
    let head = pieces-head (left_of key left) in
    let piece = piece_of (left_of key left) in
    ap (meets_tail world 0) (clash.leads_from.parts ∙ ap (λ ps. clash.leads_from.front ++ piece_at from ∷ ps) head.1)
    ∙ meets-walk world 0 clash.leads_from.front (seat_of from) clash.map (piece_at from) (piece ∷ head.0) clash.leads_from.way clash.is_level
    ∙ meets-here world (seat_of from) (piece_at from) piece head.0 at (ap (λ node. entry_under node (piece_at from)) clash.is_level ∙ clash.entry) clash.held clash.value clash.is_tail

pub meets-way : (arena : Arena) (key : List ℕ) (way : Way) → IsWay arena key way → IsNew way → meets_tail (world_of arena) 0 (pieces key) ≡ clashes way
meets-way arena key (At place) goes new = absurd new
meets-way arena key (Gap place left) goes new = meets-gap (world_of arena) key place left goes
meets-way arena key (Clash from at left) goes new = meets-clash (world_of arena) key from at left goes

-- Where a level more is passed others begin so.
others_there : (beside : Bool) (to : ℕ) (left : List ℕ) → others_begin (length (to ∷ left)) beside ≡ true
others_there beside to left = ap (λ b. cond b true beside) (lt-ltb 0 (length (to ∷ left)) (omega arith))

-- ---- a key that has come in

module _ (before after : Arena) (is : IsArena before) (led : AllLed (world_of before)) (key : List ℕ) (is_key : IsString key)
    (change : IsChange (world_of before) (world_of after) (pieces key) (Some 0)) (none : lookup (world_of before) 0 (pieces key) ≡ None) (stays : StaysLed before after)
    (beside : Bool) (meets : meets_tail (world_of before) 0 (pieces key) ≡ beside) where
  abbrev W : World
  W = world_of before

  -- A level on its way.
  module _ (at : ℕ) (map : FinMap word_order ℕ) (is_level : W (suc at) ≡ level map) (front rest : List ℕ) (inner : AreInner front) (way : walk W 0 front ≡ Some (suc at)) (is_rest : IsString rest)
      (parts : pieces key ≡ front ++ pieces rest) where
    abbrev now : ℕ
    now = beginning (map_behind (world_of after) (suc at)) (piece_of rest)

    -- One more key begins with the next piece than stood behind its entry.
    one_more : now ≡ length (part_of (entry_keys W) (piece_of rest) (get map (piece_of rest))) + 1
    one_more =
        let was = level-told (child_at before at) map is_level in
        let reached = level_reached before after is led key 0 change stays at was.0 was.1 was.2 in
        let same = reached-once W is.behind is.is_world (suc at) (record { front = front; inner = inner; way = way }) reached in
        let whole : pieces key ≡ reached.front ++ pieces rest = parts ∙ ap (λ ps. ps ++ pieces rest) same in
        let comes = key_comes before after is led key 0 change stays at was.0 was.1 was.2 rest is_rest whole in
        let absent = key_was before after is led key 0 change stays at was.0 was.1 was.2 rest is_rest whole ∙ none in
        ap (λ (all : FinMap byte_order ℕ). beginning all (piece_of rest)) comes
        ∙ beginning_itself (map_behind W (suc at)) rest 0 absent
        ∙ ap (λ n. n + 1) (beginning_part is.is_world (suc at) map is_level (piece_of rest))

    few : get map (piece_of rest) ≡ None → now ≤ 1
    few entry = let one = one_more ∙ ap (λ (found : Option ℕ). length (part_of (entry_keys W) (piece_of rest) found) + 1) entry in omega (arith, one)

    more : (to : ℕ) → get map (piece_of rest) ≡ Some to → 2 ≤ now
    more to entry =
        let one = one_more ∙ ap (λ (found : Option ℕ). length (part_of (entry_keys W) (piece_of rest) found) + 1) entry in
        let some = level_some is.is_world (suc at) map is_level (piece_of rest) to entry in
        omega (arith, one, some)

    abbrev Holds : Type 0
    Holds = IsBegun (world_of after) at rest (others_begin (length (passed_from W (suc at) (pieces rest))) beside)

    -- What is left of the key, by its first piece.
    module _ (ps : List ℕ) (whole : pieces rest ≡ piece_of rest ∷ ps) where
      entry_is : (found : Option ℕ) → get map (piece_of rest) ≡ found → entry_under (W (suc at)) (piece_of rest) ≡ found
      entry_is found entry = ap (λ node. entry_under node (piece_of rest)) is_level ∙ entry

      meets_on : meets_tail W (suc at) (piece_of rest ∷ ps) ≡ beside
      meets_on = sym (meets-walk W 0 front (suc at) map (piece_of rest) ps way is_level) ∙ ap (meets_tail W 0) (sym (parts ∙ ap (λ qs. front ++ qs) whole)) ∙ meets

      none_on : lookup W (suc at) (piece_of rest ∷ ps) ≡ None
      none_on = sym (lookup-walk W 0 front (suc at) (piece_of rest) ps way) ∙ ap (lookup W 0) (sym (parts ∙ ap (λ qs. front ++ qs) whole)) ∙ none

      -- Where the way passes so many levels more, it is as is told.
      holds : (left : List ℕ) → passed_from W (suc at) (piece_of rest ∷ ps) ≡ left → IsBegun (world_of after) at rest (others_begin (length left) beside) → Holds
      holds left passed begun = subst (λ qs. IsBegun (world_of after) at rest (others_begin (length qs) beside)) (sym (ap (passed_from W (suc at)) whole ∙ passed)) begun

      by_none : get map (piece_of rest) ≡ None → Holds
      by_none entry =
          let ends = meets-none W (suc at) (piece_of rest) ps (entry_is None entry) in
          holds [] (passed-none W (suc at) (piece_of rest) ps (entry_is None entry)) (subst (IsBegun (world_of after) at rest) (sym ends ∙ meets_on) (few entry))

    -- Its next piece is its last.
    by_last : pieces rest ≡ piece_of rest ∷ [] → (found : Option ℕ) → get map (piece_of rest) ≡ found → Holds
    by_last whole None entry = by_none [] whole entry
    by_last whole (Some value) entry =
        let there : lookup W (suc at) (piece_of rest ∷ []) ≡ Some value =
        ap (λ node. at_node node (piece_of rest) [] (λ to. lookup W (suc to) [])) is_level ∙ ap (λ found. at_entry found [] (λ to. lookup W (suc to) [])) entry in
        absurd (none-some value (sym (none_on [] whole) ∙ there))

    -- Others follow.
    module _ (long : 8 ≤ length rest) (next : ℕ) (ps : List ℕ) (whole : pieces rest ≡ piece_of rest ∷ next ∷ ps) where
      by_node : (to : ℕ) → get map (piece_of rest) ≡ Some to → (node : Node) → W (suc to) ≡ node → Holds
      by_node to entry gone e =
          absurd (((is.is_world.levels (suc at) map is_level).leads (piece_of rest) to entry (piece-IsInner rest (text_of_key rest is_rest) long)).1 e)
      by_node to entry (tail held value) e =
          let entry_on = entry_is (next ∷ ps) whole (Some to) entry in
          let ends = meets-here W (suc at) (piece_of rest) next ps to entry_on held value e in
          holds (next ∷ ps) whole [] (passed-tail W (suc at) (piece_of rest) next ps to entry_on held value e)
          (subst (IsBegun (world_of after) at rest) (sym ends ∙ meets_on (next ∷ ps) whole) (more to entry))
      by_node to entry (level words) e =
          holds (next ∷ ps) whole (to ∷ passed_from W (suc to) (next ∷ ps))
          (passed-level W (suc at) (piece_of rest) next ps to (entry_is (next ∷ ps) whole (Some to) entry) words e)
          (subst (IsBegun (world_of after) at rest) (sym (others_there beside to (passed_from W (suc to) (next ∷ ps)))) (more to entry))

      by_entry : (found : Option ℕ) → get map (piece_of rest) ≡ found → Holds
      by_entry None entry = by_none (next ∷ ps) whole entry
      by_entry (Some to) entry = by_node to entry (W (suc to)) refl

    begun : Holds
    begun = elim (cases_lt (length rest) 8) [
      | inl short ↦ by_last (pieces_short rest short) (get map (piece_of rest)) refl
      | inr long ↦
          let head = pieces-head (drop 8 rest) in
          by_entry long (piece_of (drop 8 rest)) head.0 (pieces_long rest long ∙ ap (λ qs. piece_of rest ∷ qs) head.1) (get map (piece_of rest)) refl
    ]

  abbrev Each : ℕ → List ℕ → Type 0
  Each at rest = IsBegun (world_of after) at rest (others_begin (length (passed_from W (suc at) (pieces rest))) beside)

  -- Behind each level on its way it is so.
  pub are_begun : AreBegun (world_of after) (levels_passed W key) key beside
  are_begun = from (levels_passed W key) key (all_along W key Each begun (length key) 0 [] key (omega arith) tt refl is_key refl)
    where
      from : (places rest : List ℕ) → AreAll W key Each begun places rest → AreBegun (world_of after) places rest beside
      from [] rest all = tt
      from (at ∷ places) rest all =
          (subst (λ qs. IsBegun (world_of after) at (drop 8 rest) (others_begin (length qs) beside)) (sym all.1) all.2, from places (drop 8 rest) all.3)
