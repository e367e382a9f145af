-- What levels tell of the keys behind them where a key was counted out, and then taken out.
use Rattle.std.proofs.Common.{◌≡◌, ◌≢◌, ℕ, zero, suc, ◌<◌, ◌≤◌, Bool, true, false, cond, List, [], ◌∷◌, ◌++◌, ◌+◌, length, take, drop, is_some, Option, None, Some, inl, inr, refl, sym, ap}
use Rattle.std.proofs.Common.{subst, ◌∙◌, arith, ⊎_elim}
use Rattle.std.proofs.lemmas.Bool.{cases_eq, cases_lt}
use Rattle.std.proofs.lemmas.List.{length-append, length-take, append-nil}
use Rattle.std.proofs.lemmas.Option.{none-some, same_Some}
use Rattle.std.proofs.lemmas.Cmp.{nat_cmp_total}
use Rattle.std.specs.Ordering.{eq_by_cmp}
use Rattle.std.specs.FinMap.{FinMap, get, remove, get-remove}
use Rattle.judy_model.specs.Keys.{word_order}
use Rattle.judy_model.specs.Arrays.{ArrayOf}
use Rattle.judy_sl.specs.Children.{Child, Free, Tail, Level}
use Rattle.judy_sl.specs.declared.arena.Arena.{Arena}
use Rattle.judy_sl.specs.declared.arena.Place.{Place}
use Rattle.judy_sl.specs.declared.arena.Place.TheVariants.{Root, Below}
use Rattle.judy_sl.specs.declared.shrink.Cut.{Cut}
use Rattle.judy_sl.specs.Pieces.{pieces, piece_of, IsText, AreInner}
use Rattle.judy_sl.specs.World.{World, Node, gone, tail, level, lookup, walk, step_node, step_entry}
use Rattle.judy_sl.specs.WorldInvariants.{AllLed}
use Rattle.judy_sl.specs.Arenas.{world_of, node_of, child_at, IsArena}
use Rattle.judy_sl.specs.Places.{IsLevelPlace}
use Rattle.judy_sl.specs.Stepped.{entry_under}
use Rattle.judy_sl.specs.Ways.{seat_of, piece_at, levels_passed}
use Rattle.judy_sl.specs.Noted.{AreFirstPassed}
use Rattle.judy_sl.specs.Counted.{keys_behind, LevelTells, Same, OneLess, AreCounted, IsAmong, AreCountedBut}
use Rattle.judy_sl.specs.Grown.{IsChange}
use Rattle.judy_sl.specs.Shrunk.{child_without, place_without, IsCutWhere, IsLeft, IsShrunk}
use Rattle.judy_sl.specs.Listed.{StaysLed}
use Rattle.judy_sl.proofs.lemmas.pieces.PieceLemmas.{text_of_key, text-drop, piece-IsInner}
use Rattle.judy_sl.proofs.lemmas.pieces.Ways.{step-parts, walk-behind, walk-more}
use Rattle.judy_sl.proofs.lemmas.pieces.OnWay.{inner-more}
use Rattle.judy_sl.proofs.lemmas.seats.Seats.{cond-same, cond-other}
use Rattle.judy_sl.proofs.lemmas.seats.Led.{KeepsEntries, keeps-same, keeps-then}
use Rattle.judy_sl.proofs.lemmas.seats.Linked.{child_at-same, child_at-other, root-with_child}
use Rattle.judy_sl.proofs.lemmas.inserts.Filled.{level-stands}
use Rattle.judy_sl.proofs.lemmas.seats.Lone.{get-remove_here}
use Rattle.judy_sl.proofs.lemmas.removals.Shrinks.{can-without, world-without}
use Rattle.judy_sl.proofs.lemmas.counts.KeptLevels.{IsReached, all-reached, reached-keeps, reached-once, walk-keeps}
use Rattle.judy_sl.proofs.lemmas.counts.KeysBehind.{keys_after, keys-reached, keys-stay, keys-come}
use Rattle.judy_sl.proofs.lemmas.counts.PassedLevels.{IsPassed, among-front, among-way, way-first}
use Rattle.judy_sl.proofs.lemmas.counts.Stepping.{among-cases}
use Rattle.judy_sl.proofs.lemmas.counts.LedLevels.{stays_kept}
use Rattle.judy_sl.proofs.lemmas.counts.ListWays.{entry_level}
use Rattle.judy_sl.proofs.lemmas.counts.WayLevels.{AreAlong, along-front, along-first, along-way}
use Rattle.judy_sl.specs.Strings.{IsString}

-- ---- the numbers

module _ (before after : Arena) (is : IsArena before) (is_after : IsArena after) (led : AllLed (world_of after)) (places : List ℕ) (counted : AreCountedBut before places)
    (key : List ℕ) (is_key : IsString key) (value : ℕ) (change : IsChange (world_of after) (world_of before) (pieces key) (Some value))
    (none : lookup (world_of after) 0 (pieces key) ≡ None) (keeps : (seat : ℕ) → KeepsEntries (world_of after seat) (world_of before seat)) where
  -- A level that was there with the same number.
  module _ (at told : ℕ) (words was : ArrayOf word_order) (level_is : child_at after at ≡ Level told words) (was_is : child_at before at ≡ Level told was) where
    reached : IsReached (world_of after) (suc at)
    reached = all-reached (world_of after) is_after.behind is_after.is_world led at (λ gone_is. let g : level words.map ≡ gone = sym (ap node_of level_is) ∙ gone_is in cc)

    abbrev reached-before : IsReached (world_of before) (suc at)
    reached-before = reached-keeps (world_of after) (world_of before) keeps (suc at) reached

    keys-before : keys_behind (world_of before) (suc at) ≡ keys_after (world_of before) reached.front
    keys-before = keys-reached (world_of before) reached-before.front (suc at) reached-before.way

    now-after : keys_after (world_of after) reached.front ≡ keys_behind (world_of after) (suc at)
    now-after = sym (keys-reached (world_of after) reached.front (suc at) reached.way)

    -- On the key's way it told one less than there were,
    was-passed : (rest : List ℕ) → pieces key ≡ reached.front ++ rest → suc told ≡ keys_behind (world_of before) (suc at) → told ≡ keys_behind (world_of after) (suc at)
    was-passed rest parts tells =
        let come = keys-come (world_of after) (world_of before) key value change reached.front reached.inner is_key none rest parts in
        let one : suc told ≡ suc (keys_behind (world_of after) (suc at)) = tells ∙ keys-before ∙ come ∙ ap (λ n. suc n) now-after in
        omega (arith, one)

    -- and off it just as many.
    was-off : ((rest : List ℕ) → reached.front ++ rest ≢ pieces key) → told ≡ keys_behind (world_of before) (suc at) → told ≡ keys_behind (world_of after) (suc at)
    was-off off tells =
        tells
        ∙ keys-before
        ∙ keys-stay (world_of after) (world_of before) key value change reached.front reached.inner off
        ∙ now-after

    passed-parts : IsPassed (world_of before) 0 (pieces key) at → (rest : List ℕ) × (pieces key ≡ reached.front ++ rest)
    passed-parts passed =
        let way : IsReached (world_of before) (suc at) = record { front = passed.piece ∷ passed.front; inner = passed.inner; way = passed.way } in
        (passed.rest, passed.parts ∙ ap (λ front. front ++ passed.rest) (reached-once (world_of before) is.behind is.is_world (suc at) way reached-before))

  module _ (levels : (at told : ℕ) (words : ArrayOf word_order) → child_at after at ≡ Level told words → (was : ArrayOf word_order) × (child_at before at ≡ Level told was))
      (passed : (at : ℕ) → IsAmong places at → IsPassed (world_of before) 0 (pieces key) at) (left : (at : ℕ) (map : FinMap word_order ℕ) (front rest : List ℕ) →
      world_of after (suc at) ≡ level map → AreInner front → walk (world_of after) 0 front ≡ Some (suc at) → pieces key ≡ front ++ rest → IsAmong places at) where
    told-child : (at : ℕ) (child : Child) → child_at after at ≡ child → LevelTells Same child (keys_behind (world_of after) (suc at))
    told-child at Free is = tt
    told-child at (Tail rest) is = tt
    told-child at (Level told words) level_is =
        let was = levels at told words level_is in
        let to = reached at told words was.0 level_is was.1 in
        ⊎_elim
        (λ among.
        let on = passed-parts at told words was.0 level_is was.1 (passed at among) in
        was-passed at told words was.0 level_is was.1 on.0 on.1 (subst (λ child. LevelTells OneLess child (keys_behind (world_of before) (suc at))) was.1 (counted.passed at among)))
        (λ off. was-off at told words was.0 level_is was.1 (λ rest same. off (left at words.map to.front rest (ap node_of level_is) to.inner to.way (sym same)))
        (subst (λ child. LevelTells Same child (keys_behind (world_of before) (suc at))) was.1 (counted.others at off)))
        (among-cases places at)

    counted-now : AreCounted after
    counted-now at = told-child at (child_at after at) refl

-- ---- what stands after an entry was taken out

keeps-gone : (node other : Node) → node ≡ gone → KeepsEntries node other
keeps-gone node other none map is = absurd (let g : gone ≡ level map = sym none ∙ is in cc)

keeps-remove : (words : FinMap word_order ℕ) (piece : ℕ) → KeepsEntries (level (remove words piece)) (level words)
keeps-remove words piece map is =
    let same : remove words piece ≡ map = cc in
    (words, refl, λ other at inner entry. still other at (ap (λ (m : FinMap word_order ℕ). get m other) same ∙ entry))
  where
    still : (other at : ℕ) → get (remove words piece) other ≡ Some at → get words other ≡ Some at
    still other at entry = by (eq_by_cmp word_order other piece) (sym (get-remove nat_cmp_total words piece other) ∙ entry)
      where
        by : (b : Bool) → cond b None (get words other) ≡ Some at → get words other ≡ Some at
        by true is = absurd (none-some at is)
        by false is = is

without-keeps : (child : Child) (piece : ℕ) → KeepsEntries (node_of (child_without child piece)) (node_of child)
without-keeps Free piece = keeps-gone gone gone refl
without-keeps (Tail rest) piece = keeps-same (node_of (Tail rest)) (node_of (Tail rest)) refl
without-keeps (Level keys words) piece = keeps-remove words.map piece

-- A level of the arena without the entry was one with the same number.
child-was : (child : Child) (piece : ℕ) (told : ℕ) (words : ArrayOf word_order) → child_without child piece ≡ Level told words → (was : ArrayOf word_order) × (child ≡ Level told was)
child-was Free piece told words is = absurd (cc)
child-was (Tail rest) piece told words is = absurd (cc)
child-was (Level keys was) piece told words is = (let same : keys ≡ told = cc in (was, ap (λ n. Level n was) same))

module _ (before mid : Arena) (place : Place) (mid_is : mid ≡ place_without before place) (is_level : IsLevelPlace before place) where
  out-level : (to : Place) → place ≡ to → (at told : ℕ) (words : ArrayOf word_order) → child_at mid at ≡ Level told words → (was : ArrayOf word_order) × (child_at before at ≡ Level told was)
  out-level (Root piece) e at told words is = (words, ap (λ (p : Place). child_at (place_without before p) at) (sym e) ∙ ap (λ (a : Arena). child_at a at) (sym mid_is) ∙ is)
  out-level (Below to piece) e at told words is =
      let here : child_at (place_without before (Below to piece)) at ≡ Level told words = ap (λ (p : Place). child_at (place_without before p) at) (sym e) ∙
      ap (λ (a : Arena). child_at a at) (sym mid_is) ∙ is in
      let can = can-without before to piece (subst (IsLevelPlace before) e is_level) in
      elim (cases_eq at to) [
        | inl same ↦
            let was = child-was (child_at before to) piece told words (sym (child_at-same before to (child_without (child_at before to) piece) can at same) ∙ here) in
            (was.0, ap (child_at before) same ∙ was.1)
        | inr apart ↦ (words, sym (child_at-other before to (child_without (child_at before to) piece) can at apart) ∙ here)
      ]

  out-keeps : (to : Place) → place ≡ to → (seat : ℕ) → KeepsEntries (world_of mid seat) (world_of before seat)
  out-keeps to e seat =
      subst (λ (w : World). KeepsEntries (w seat) (world_of before seat)) (sym (ap world_of (mid_is ∙ ap (place_without before) e))) (by_place to (subst (IsLevelPlace before) e is_level) seat)
    where
      by_place : (to : Place) → IsLevelPlace before to → (seat : ℕ) → KeepsEntries (world_of (place_without before to) seat) (world_of before seat)
      by_place (Root piece) is zero = keeps-remove before.root.map piece
      by_place (Root piece) is (suc at) = keeps-same (world_of before (suc at)) (world_of before (suc at)) refl
      by_place (Below to piece) is zero =
          keeps-same (world_of (place_without before (Below to piece)) 0) (world_of before 0) (sym (ap (λ (words : ArrayOf word_order). level words.map)
          (root-with_child before to (child_without (child_at before to) piece))))
      by_place (Below to piece) is (suc at) =
          let can = can-without before to piece is in
          elim (cases_eq at to) [
            | inl same ↦
                let child = child_at-same before to (child_without (child_at before to) piece) can at same ∙ ap (λ n. child_without (child_at before n) piece) (sym same) in
                subst (λ c. KeepsEntries (node_of c) (world_of before (suc at))) (sym child) (without-keeps (child_at before at) piece)
            | inr apart ↦ keeps-same (world_of (place_without before (Below to piece)) (suc at)) (world_of before (suc at))
                (sym (ap node_of (child_at-other before to (child_without (child_at before to) piece) can at apart)))
          ]

-- ---- what stands after places were made free

module _ (mid after : Arena) (left : IsLeft mid after) where
  left-child : (at : ℕ) (child : Child) → child_at after at ≡ child → (words : ArrayOf word_order) (told : ℕ) → child ≡ Level told words → child_at mid at ≡ Level told words
  left-child at child here words told is =
      let level_is = here ∙ is in
      sym (left.children at (λ none. let g : level words.map ≡ gone = sym (ap node_of level_is) ∙ none in cc)) ∙ level_is

  left-keeps : (seat : ℕ) → KeepsEntries (world_of after seat) (world_of mid seat)
  left-keeps zero = keeps-same (world_of after 0) (world_of mid 0) (ap (λ (words : ArrayOf word_order). level words.map) (sym left.root))
  left-keeps (suc at) = by_node (node_of (child_at after at)) refl
    where
      same : node_of (child_at after at) ≢ gone → KeepsEntries (world_of after (suc at)) (world_of mid (suc at))
      same there = keeps-same (world_of after (suc at)) (world_of mid (suc at)) (ap node_of (sym (left.children at there)))

      by_node : (node : Node) → node_of (child_at after at) ≡ node → KeepsEntries (world_of after (suc at)) (world_of mid (suc at))
      by_node gone is = keeps-gone (world_of after (suc at)) (world_of mid (suc at)) is
      by_node (tail held value) is = same (λ none. let g : tail held value ≡ gone = sym is ∙ none in cc)
      by_node (level map) is = same (λ none. let g : level map ≡ gone = sym is ∙ none in cc)

pub left-same : (arena : Arena) → IsLeft arena arena
left-same arena = record { root = refl; children = λ at there. refl }

-- ---- the whole

held-value : (found : Option ℕ) → is_some found ≡ true → (value : ℕ) × (found ≡ Some value)
held-value None there = absurd (cc)
held-value (Some value) there = (value, refl)

-- ---- where the key was cut off

-- Of two splits of one list the one whose back is longer has the other's front behind its own.
splits : (front ps longer qs : List ℕ) → front ++ ps ≡ longer ++ qs → length qs ≤ length ps → (mid : List ℕ) × (longer ≡ front ++ mid) × (ps ≡ mid ++ qs)
splits [] ps longer qs e less = (longer, refl, e)
splits (piece ∷ front) ps [] qs e less =
    let long : suc (length (front ++ ps)) ≡ length qs = ap length e in
    let sum = length-append front ps in
    let never : ⊥ = omega (arith, long, sum, less) in
    absurd never
splits (piece ∷ front) ps (other ∷ longer) qs e less =
    let heads : piece ≡ other = cc in
    let tails : front ++ ps ≡ longer ++ qs = cc in
    let rest = splits front ps longer qs tails less in
    (rest.0, ap (λ p. p ∷ longer) (sym heads) ∙ ap (λ l. piece ∷ l) rest.1, rest.2)

-- A way that goes on is one way and then another.
walk-split : (world : World) (seat : ℕ) (front more : List ℕ) (end : ℕ) → walk world seat (front ++ more) ≡ Some end → (mid : ℕ) × (walk world seat front ≡ Some mid) × (walk world mid more ≡ Some end)
walk-split world seat [] more end way = (seat, refl, way)
walk-split world seat (piece ∷ front) more end way =
    let step = step-parts (world seat) piece (λ found. walk world (suc found) (front ++ more)) end way in
    let on = walk-split world (suc step.found) front more end step.goes in
    (on.0, ap (λ node. step_node node piece (λ found. walk world (suc found) front)) step.is ∙ ap (λ found. step_entry found (λ to. walk world (suc to) front)) step.entry ∙ on.1, on.2)

module _ (before mid after : Arena) (is : IsArena before) (key : List ℕ) (is_key : IsString key) (cut : Cut) (cut_is : IsCutWhere (Unit {0}) (world_of before) key cut)
    (mid_is : mid ≡ place_without before cut.place) (left : IsLeft mid after) where
  abbrev above : List ℕ
  above = cut_is.leads.front

  abbrev piece : ℕ
  piece = piece_at cut.place

  keeps-out : (seat : ℕ) → KeepsEntries (world_of mid seat) (world_of before seat)
  keeps-out = out-keeps before mid cut.place mid_is (level-stands before cut.place cut_is.map cut_is.is_level) cut.place refl

  -- The level there has no entry any more.
  none-there : get (remove cut_is.map piece) piece ≡ None
  none-there = get-remove_here cut_is.map piece

  cut-seat : world_of mid (seat_of cut.place) ≡ level (remove cut_is.map piece)
  cut-seat =
      ap (λ (w : World). w (seat_of cut.place)) (ap world_of mid_is ∙ world-without before cut_is.map cut.place cut_is.is_level)
      ∙ cond-same (world_of before) (seat_of cut.place) (level (remove cut_is.map piece)) (seat_of cut.place) refl

  -- So no way comes further.
  further-none : (more : List ℕ) (end : ℕ) → walk (world_of mid) 0 (above ++ piece ∷ more) ≡ Some end → ⊥
  further-none more end way =
      let parts = walk-split (world_of mid) 0 above (piece ∷ more) end way in
      let was = walk-keeps (world_of mid) (world_of before) keeps-out 0 above parts.0 cut_is.leads.inner parts.1 in
      let there : parts.0 ≡ seat_of cut.place = same_Some parts.0 (seat_of cut.place) (sym was ∙ cut_is.leads.way) in
      let step = step-parts (world_of mid parts.0) piece (λ found. walk (world_of mid) (suc found) more) end parts.2 in
      let map : level step.map ≡ level (remove cut_is.map piece) = sym step.is ∙ ap (world_of mid) there ∙ cut-seat in
      let same : step.map ≡ remove cut_is.map piece = cc in
      none-some step.found (sym none-there ∙ ap (λ (m : FinMap word_order ℕ). get m piece) (sym same) ∙ step.entry)

  -- A level that is left on the key's way stands no deeper.
  short-left : (at : ℕ) (front rest : List ℕ) → AreInner front → walk (world_of after) 0 front ≡ Some (suc at) → pieces key ≡ front ++ rest → length front ≤ length above
  short-left at front rest inner way parts = elim (cases_lt (length above) (length front)) [
    | inl more ↦
        let all = ap (λ (ps : List ℕ). length ps) (sym cut_is.leads.parts ∙ parts) in
        let one = length-append above (piece ∷ cut_is.rest) in
        let two = length-append front rest in
        let apart = splits above (piece ∷ cut_is.rest) front rest (sym cut_is.leads.parts ∙ parts) (omega (arith, all, one, two, more)) in
        absurd (deeper apart.0 front rest apart.1 apart.2 more way inner)
    | inr most ↦ most
  ]
    where
      deeper : (mid_ps front rest : List ℕ) → front ≡ above ++ mid_ps → piece ∷ cut_is.rest ≡ mid_ps ++ rest → length above < length front →
          walk (world_of after) 0 front ≡ Some (suc at) → AreInner front → ⊥
      deeper [] front rest front_is rest_is more way inner =
          let same = ap (λ (ps : List ℕ). length ps) (front_is ∙ append-nil above) in
          omega (arith, same, more)
      deeper (first ∷ more_ps) front rest front_is rest_is more way inner =
          let head : first ≡ piece = cc in
          let kept = walk-keeps (world_of after) (world_of mid) (left-keeps mid after left) 0 front (suc at) inner way in
          further-none more_ps (suc at) (ap (walk (world_of mid) 0) (ap (λ p. above ++ p ∷ more_ps) (sym head) ∙ sym front_is) ∙ kept)

  keeps-all : (seat : ℕ) → KeepsEntries (world_of after seat) (world_of before seat)
  keeps-all seat = keeps-then (world_of after seat) (world_of mid seat) (world_of before seat) (left-keeps mid after left seat) (keeps-out seat)

  -- Each level that is left stood there, reached by the same pieces.
  pub lost-stays : StaysLed after before
  lost-stays = stays_kept after before keeps-all

  -- It is one of those that the way had passed there.
  pub left-among : (at : ℕ) (map : FinMap word_order ℕ) (front rest : List ℕ) → world_of after (suc at) ≡ level map → AreInner front → walk (world_of after) 0 front ≡ Some (suc at) →
      pieces key ≡ front ++ rest → IsAmong (take cut.depth (levels_passed (world_of before) key)) at
  left-among at map front rest is_level inner way parts =
      let short = short-left at front rest inner way parts in
      let deep = cut_is.deep in
      let was = keeps-all (suc at) map is_level in
      way-first (world_of before) is.behind is.is_world key is_key front rest at was.0 inner (walk-keeps (world_of after) (world_of before) keeps-all 0 front (suc at) inner way)
      parts was.1 cut.depth (omega (arith, short, deep))

  -- ---- those that are left are the first on the way still

  module _ (is_after : IsArena after) where
    -- A seat that the way comes to before the cut is another one.
    not_cut : (seat : ℕ) (front : List ℕ) → AreInner front → walk (world_of before) 0 front ≡ Some seat → length front < length above → seat ≢ seat_of cut.place
    not_cut seat front inner way short same =
        let here = ap (λ (ps : List ℕ). length ps) (walk-behind (world_of before) is.behind is.is_world 0 front seat inner way) in
        let there = ap (λ (ps : List ℕ). length ps) (walk-behind (world_of before) is.behind is.is_world 0 above (seat_of cut.place) cut_is.leads.inner cut_is.leads.way) in
        let both = ap (λ s. length (is.behind s)) same in
        let one = length-append (is.behind 0) front in
        let two = length-append (is.behind 0) above in
        omega (arith, here, there, both, one, two, short)

    -- All other seats stay where the entry is taken out.
    out-other : (seat : ℕ) → seat ≢ seat_of cut.place → world_of mid seat ≡ world_of before seat
    out-other seat apart =
        ap (λ (w : World). w seat) (ap world_of mid_is ∙ world-without before cut_is.map cut.place cut_is.is_level)
        ∙ cond-other (world_of before) (seat_of cut.place) (level (remove cut_is.map piece)) seat apart

    -- A level is one still.
    out-level_is : (seat : ℕ) (map : FinMap word_order ℕ) → world_of before seat ≡ level map → (now : FinMap word_order ℕ) × (world_of mid seat ≡ level now)
    out-level_is seat map is_level = elim (cases_eq seat (seat_of cut.place)) [
      | inl same ↦ (remove cut_is.map piece, ap (world_of mid) same ∙ cut-seat)
      | inr apart ↦ (map, out-other seat apart ∙ is_level)
    ]

    along-left : (places rest : List ℕ) (seat : ℕ) (front : List ℕ) → IsText rest → AreInner front → walk (world_of before) 0 front ≡ Some seat → length front + length places ≤ length above →
        world_of after seat ≡ world_of mid seat → AreAlong (world_of before) seat places rest → AreAlong (world_of after) seat places rest
    along-left [] rest seat front text inner way short same along = tt
    along-left (at ∷ places) rest seat front text inner way short same along =
        let there = entry_level (world_of before seat) (piece_of rest) at along.1 in
        let whole = piece-IsInner rest text along.0 in
        let goes = walk-more (world_of before) 0 front seat there.0 (piece_of rest) at way there.1 there.2 in
        let longer = length-append front (piece_of rest ∷ []) in
        let now = same ∙ out-other seat (not_cut seat front inner way (omega (arith, short))) ∙ there.1 in
        let stands = ((is_after.is_world.levels seat there.0 now).leads (piece_of rest) at there.2 whole).1 in
        let stays = ap node_of (left.children at stands) in
        let map = out-level_is (suc at) along.2.0 along.2.1 in (
          along.0,
          ap (λ node. entry_under node (piece_of rest)) now ∙ there.2,
          (map.0, stays ∙ map.1),
          along-left places (drop 8 rest) (suc at) (front ++ piece_of rest ∷ []) (text-drop 8 rest text) (inner-more front (piece_of rest) inner whole) goes
              (omega (arith, short, longer)) stays along.3,
        )

    pub left-first : AreFirstPassed (world_of after) key (take cut.depth (levels_passed (world_of before) key))
    left-first =
        let most = length-take cut.depth (levels_passed (world_of before) key) in
        let deep = cut_is.deep in
        along-first (world_of after) (take cut.depth (levels_passed (world_of before) key)) 0 key
        (along-left (take cut.depth (levels_passed (world_of before) key)) key 0 [] (text_of_key key is_key) tt refl (omega (arith, most, deep))
        (ap (λ (words : ArrayOf word_order). level words.map) left.root)
        (along-front (world_of before) cut.depth (levels_passed (world_of before) key) 0 key (along-way (world_of before) key)))

  pub counted-lost : (shrunk : IsShrunk before after key) → is_some (lookup (world_of before) 0 (pieces key)) ≡ true →
      AreCountedBut before (take cut.depth (levels_passed (world_of before) key)) → AreCounted after
  counted-lost shrunk there counted =
      let held = held-value (lookup (world_of before) 0 (pieces key)) there in
      let back : IsChange (world_of after) (world_of before) (pieces key) (Some held.0) = record { at_key = held.1; elsewhere = λ ps are ne. sym (shrunk.change.elsewhere ps are ne) } in
      counted-now before after is shrunk.is_arena shrunk.led (take cut.depth (levels_passed (world_of before) key)) counted key is_key held.0 back shrunk.change.at_key keeps-all
      (λ at told words level_is. out-level before mid cut.place mid_is (level-stands before cut.place cut_is.map cut_is.is_level) cut.place refl at told words
      (left-child mid after left at (child_at after at) refl words told level_is))
      (λ at among. among-way (world_of before) is.behind is.is_world key is_key at (among-front cut.depth (levels_passed (world_of before) key) at among))
      left-among
