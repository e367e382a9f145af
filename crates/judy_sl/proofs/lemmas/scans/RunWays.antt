-- The ways of a run: to the level behind the first bytes of a key, from an entry down to the first key behind it, and up to the levels above.
use Rattle.std.proofs.Common.{◌≡◌, ℕ, suc, ◌+◌, ◌-◌, ◌*◌, ◌<◌, ◌≤◌, Bool, true, false, if◌then◌else◌, IsTrue, IsFalse, List, [], ◌∷◌, ◌++◌, length, take, drop, Option, Some, None, IfSome, is_some}
use Rattle.std.proofs.Common.{sym, refl, ap, ◌∙◌, subst, arith, is_lt, ⊎_elim}
use Rattle.std.specs.Borrow.{Bor}
use Rattle.std.specs.Cmp.{tied_itself}
use Rattle.std.specs.FinMap.{FinMap, get, entries, contains_key}
use Rattle.std.specs.List.{All}
use Rattle.std.proofs.lemmas.Bool.{cases_lt}
use Rattle.std.proofs.lemmas.List.{append_assoc, append-nil, drop-drop, length-append, length-drop, same_from_push}
use Rattle.std.proofs.lemmas.Option.{same_Some}
use Rattle.std.proofs.Math.Seq.{take-add}
use Rattle.judy_model.specs.Arrays.{ArrayOf}
use Rattle.judy_model.specs.Keys.{word_order}
use Rattle.judy_model.proofs.lemmas.maps.TableLemmas.{byte_order_total}
use Rattle.judy_sl.specs.declared.scans.Look.{Look}
use Rattle.judy_sl.specs.declared.scans.Turn.{Turn}
use Rattle.judy_sl.specs.declared.runs.Run.{Run}
use Rattle.judy_sl.specs.declared.runs.LastRun.{LastRun}
use Rattle.judy_sl.specs.Pieces.{piece_of, pieces, piece_bytes, spelling, IsFinal, IsInner, AreInner, IsText, SpellKey}
use Rattle.judy_sl.specs.World.{World, gone, tail, level, step_node, step_entry, walk}
use Rattle.judy_sl.specs.WorldInvariants.{IsWorld}
use Rattle.judy_sl.specs.Ways.{seat_in}
use Rattle.judy_sl.specs.Scans.{upward, meets, IsNone, IsNear, IsTurnOf, IsNeighbour}
use Rattle.judy_sl.specs.Counted.{LeadsOn}
use Rattle.judy_sl.specs.Runs.{AreBeyond, AreKept, Levels, Passes, LeadAlong, Stands, RunLeads, EntryLeads, LeadsToLevel, IsBegunAbove}
use Rattle.judy_sl.proofs.lemmas.pieces.PieceLemmas.{text_of_key, text-drop}
use Rattle.judy_sl.proofs.lemmas.pieces.Ways.{pieces_short, pieces_long, step-parts}
use Rattle.judy_sl.proofs.lemmas.pieces.OnWay.{pieces-head}
use Rattle.judy_sl.proofs.lemmas.scans.ScanLevels.{NoneBehind, pieces_last, none_child, none_tail, moved_near, turned_near, turned_none}
use Rattle.judy_sl.proofs.lemmas.scans.ScanEnds.{OnFollow, begins, its_pieces, place_is, tail_key, follow_level}
use Rattle.judy_sl.proofs.lemmas.pieces.PieceBytes.{bytes-piece, spelling-pieces}
use Rattle.judy_sl.proofs.lemmas.scans.LevelEntries.{first_of_all, beyond_lead}

-- ---- the levels above one

module _ (world : World) where
  -- They are one a piece.
  pub along_long : (seat : ℕ) (front : List ℕ) (above : Levels) (end : ℕ) → LeadAlong world seat front above end → length front ≡ length above
  along_long seat [] [] end along = refl
  along_long seat [] (passed ∷ above) end along = absurd along
  along_long seat (piece ∷ front) [] end along = absurd along
  along_long seat (piece ∷ front) (passed ∷ above) end along = ap suc (along_long (suc along.0) front above end along.2)

  -- They lead by inner pieces to the end.
  pub along_walk : (seat : ℕ) (front : List ℕ) (above : Levels) (end : ℕ) → LeadAlong world seat front above end → walk world seat front ≡ Some end
  along_walk seat [] [] end along = ap (λ s. Some s) along
  along_walk seat [] (passed ∷ above) end along = absurd along
  along_walk seat (piece ∷ front) [] end along = absurd along
  along_walk seat (piece ∷ front) (None ∷ above) end along = absurd along.1
  along_walk seat (piece ∷ front) (Some held ∷ above) end along =
      ap (λ node. step_node node piece (λ found. walk world (suc found) front)) along.1.is_level
      ∙ ap (λ o. step_entry o (λ found. walk world (suc found) front)) along.1.entry
      ∙ along_walk (suc along.0) front above end along.2

  pub along_inner : (seat : ℕ) (front : List ℕ) (above : Levels) (end : ℕ) → LeadAlong world seat front above end → AreInner front
  along_inner seat [] [] end along = tt
  along_inner seat [] (passed ∷ above) end along = absurd along
  along_inner seat (piece ∷ front) [] end along = absurd along
  along_inner seat (piece ∷ front) (None ∷ above) end along = absurd along.1
  along_inner seat (piece ∷ front) (Some held ∷ above) end along = (along.1.inner, along_inner (suc along.0) front above end along.2)

  -- One more.
  pub along_push : (seat : ℕ) (front : List ℕ) (above : Levels) (end : ℕ) → LeadAlong world seat front above end → (piece at : ℕ) (held : Bor (ArrayOf word_order)) →
      Passes world end piece at held.now.map → LeadAlong world seat (front ++ piece ∷ []) (above ++ Some held ∷ []) (suc at)
  along_push seat [] [] end along piece at held passes = (at, subst (λ s. Passes world s piece at held.now.map) (sym along) passes, refl)
  along_push seat [] (passed ∷ above) end along piece at held passes = absurd along
  along_push seat (first ∷ front) [] end along piece at held passes = absurd along
  along_push seat (first ∷ front) (passed ∷ above) end along piece at held passes = (along.0, along.1, along_push (suc along.0) front above end along.2 piece at held passes)

  -- The last one taken off.
  pub record Popped (seat : ℕ) (front : List ℕ) (above : Levels) (held : Bor (ArrayOf word_order)) (end : ℕ) : Type 0 where
    pub before : List ℕ
    pub piece : ℕ
    pub at : ℕ
    pub middle : ℕ
    pub are : front ≡ before ++ piece ∷ []
    pub along : LeadAlong world seat before above middle
    pub passes : Passes world middle piece at held.now.map
    pub is_end : suc at ≡ end

  pub along_pop : (seat : ℕ) (front : List ℕ) (above : Levels) (held : Bor (ArrayOf word_order)) (end : ℕ) → LeadAlong world seat front (above ++ Some held ∷ []) end → Popped seat front above held end
  along_pop seat [] [] held end along = absurd along
  along_pop seat [] (passed ∷ above) held end along = absurd along
  along_pop seat (piece ∷ []) [] held end along = record { before = []; piece = piece; at = along.0; middle = seat; are = refl; along = refl; passes = along.1; is_end = along.2 }
  along_pop seat (piece ∷ next ∷ front) [] held end along = absurd along.2
  along_pop seat (piece ∷ front) (passed ∷ above) held end along =
      let on = along_pop (suc along.0) front above held end along.2 in
      record {
        before = piece ∷ on.before;
        piece = on.piece;
        at = on.at;
        middle = on.middle;
        are = ap (λ ps. piece ∷ ps) on.are;
        along = (along.0, along.1, on.along);
        passes = on.passes;
        is_end = on.is_end;
      }

  -- No place among them is empty.
  pub along_some : (seat : ℕ) (front : List ℕ) (above : Levels) (end : ℕ) → LeadAlong world seat front (above ++ None ∷ []) end → ⊥
  along_some seat [] [] end along = along
  along_some seat [] (passed ∷ above) end along = along
  along_some seat (piece ∷ front) [] end along = along.1
  along_some seat (piece ∷ front) (passed ∷ above) end along = along_some (suc along.0) front above end along.2

-- ---- where pieces end in their key

pub record Cut (key front : List ℕ) (piece : ℕ) : Type 0 where
  pub within : 8 * length front ≤ length key
  pub begins : piece_of (drop (8 * length front) key) ≡ piece
  pub deep : take (8 * length front) key ≡ spelling front

pub cut_at : (front : List ℕ) (piece : ℕ) (rest key : List ℕ) → IsText key → pieces key ≡ front ++ piece ∷ rest → Cut key front piece
cut_at [] piece rest key text is =
    let head = pieces-head key in
    let both : piece_of key ∷ head.0 ≡ piece ∷ rest = sym head.1 ∙ is in
    record { within = omega arith; begins = cc; deep = refl }
cut_at (first ∷ front) piece rest key text is = ⊎_elim
    (λ short. let both : piece_of key ∷ [] ≡ first ∷ front ++ piece ∷ rest = sym (pieces_short key short) ∙ is in let none : [] ≡ front ++ piece ∷ rest = cc in
    let long = ap length none ∙ length-append front (piece ∷ rest) in
    let never : ⊥ = omega (arith, long) in absurd never)
    (λ (long : 8 ≤ length key).
    let both : piece_of key ∷ pieces (drop 8 key) ≡ first ∷ front ++ piece ∷ rest = sym (pieces_long key long) ∙ is in
    let here : piece_of key ≡ first = cc in
    let others : pieces (drop 8 key) ≡ front ++ piece ∷ rest = cc in
    let on = cut_at front piece rest (drop 8 key) (text-drop 8 key text) others in
    let left = length-drop 8 key in
    let within = on.within in
    let eight : 8 * length (first ∷ front) ≡ 8 + 8 * length front = omega arith in
    let bytes : take 8 key ≡ piece_bytes first = sym (bytes-piece key text) ∙ ap piece_bytes here in
    record {
      within = omega (arith, left, within, long);
      begins = ap (λ n. piece_of (drop n key)) eight ∙ ap piece_of (sym (drop-drop (8 * length front) 8 key)) ∙ on.begins;
      deep = ap (λ n. take n key) eight ∙ take-add 8 (8 * length front) key ∙ (λ t. bytes t ++ on.deep t);
    })
    (cases_lt (length key) 8)

-- ---- to the level behind the first bytes of a key

-- The level of a turn stands there.
abbrev pub turn_level : (itself : Bool) (world : World) (key : List ℕ) (turn : Turn) (at : IsTurnOf (upward itself) world key turn) → LeadsToLevel world key turn.depth at.map
turn_level itself world key turn at = record {
  front = at.front;
  seat = seat_in turn.child;
  way = at.way;
  inner = at.inner;
  is_level = at.is_level;
  long = at.long;
  within = at.within;
  parts = at.parts;
}

-- Levels have been passed, and from the one that was come to, with this rest of the key, others lead to the one that is sought; then so many
-- bytes are left.
pub record OnWayTo (world : World) (whole : List ℕ) (end : ℕ) (target : FinMap word_order ℕ) (left : ℕ) (map : FinMap word_order ℕ) (rest : List ℕ) (above : Levels) (known : Bool) : Type 0 where
  pub passed : List ℕ
  pub front : List ℕ
  pub seat : ℕ
  pub are : passed ++ front ≡ whole
  pub along : IsTrue known → LeadAlong world 0 passed above seat
  pub way : walk world seat front ≡ Some end
  pub inner : AreInner front
  pub is_level : world seat ≡ level map
  pub is_target : world end ≡ level target
  pub long : length rest ≡ left + 8 * length front
  pub parts : (piece : ℕ) × (more : List ℕ) × (pieces rest ≡ front ++ piece ∷ more)

pub way_start : (world : World) (key : List ℕ) (depth : ℕ) (target map : FinMap word_order ℕ) → world 0 ≡ level map → (leads : LeadsToLevel world key depth target) →
    OnWayTo world leads.front leads.seat target (length key - depth) map key [] true
way_start world key depth target map is leads =
    let long = leads.long in
    let within = leads.within in
    record {
      passed = [];
      front = leads.front;
      seat = 0;
      are = refl;
      along = λ known. refl;
      way = leads.way;
      inner = leads.inner;
      is_level = is;
      is_target = leads.is_level;
      long = omega (arith, long, within);
      parts = leads.parts;
    }

-- One more level is kept, where those above are known still.
abbrev pub KeepsOne : Levels → Bool → Bor (ArrayOf word_order) → Levels → Bool → Type 0
KeepsOne above known held more still = IsTrue still → IsTrue known × (more ≡ above ++ Some held ∷ [])

-- One step of it: the rest begins with a whole piece, whose entry leads to a level.
pub record StepTo (world : World) (whole : List ℕ) (end : ℕ) (target : FinMap word_order ℕ) (left : ℕ) (map : FinMap word_order ℕ) (rest : List ℕ) (above : Levels) (known : Bool) : Type 0 where
  pub eight : 8 ≤ length rest
  pub at : ℕ
  pub entry : get map (piece_of rest) ≡ Some at
  pub below : FinMap word_order ℕ
  pub is_below : world (suc at) ≡ level below
  pub on : (held : Bor (ArrayOf word_order)) → held.now.map ≡ map → (more : Levels) (still : Bool) → KeepsOne above known held more still →
      OnWayTo world whole end target left below (drop 8 rest) more still

same_level : (one other : FinMap word_order ℕ) → level one ≡ level other → one ≡ other
same_level one other is = cc

level_on : (world : World) (target : FinMap word_order ℕ) (seat end : ℕ) (front : List ℕ) → walk world seat front ≡ Some end → world end ≡ level target →
    (below : FinMap word_order ℕ) × (world seat ≡ level below)
level_on world target seat end [] way is = (target, ap world (same_Some seat end way) ∙ is)
level_on world target seat end (piece ∷ front) way is = let step = step-parts (world seat) piece (λ found. walk world (suc found) front) end way in (step.map, step.is)

module _ (world : World) (whole : List ℕ) (end : ℕ) (target : FinMap word_order ℕ) (left : ℕ) (map : FinMap word_order ℕ) (rest : List ℕ) (above : Levels) (known : Bool) where
  step_to : (passed front : List ℕ) (seat : ℕ) → passed ++ front ≡ whole → (IsTrue known → LeadAlong world 0 passed above seat) → walk world seat front ≡ Some end → AreInner front →
      world seat ≡ level map → world end ≡ level target → length rest ≡ left + 8 * length front → (piece : ℕ) (more : List ℕ) → pieces rest ≡ front ++ piece ∷ more →
      left < length rest → StepTo world whole end target left map rest above known
  step_to passed [] seat are along way inner is is_target long piece more parts some = let never : ⊥ = omega (arith, long, some) in absurd never
  step_to passed (first ∷ front) seat are along way inner is is_target long piece more parts some =
      let eight : 8 ≤ length rest = omega (arith, long) in
      let both : piece_of rest ∷ pieces (drop 8 rest) ≡ first ∷ front ++ piece ∷ more = sym (pieces_long rest eight) ∙ parts in
      let here : first ≡ piece_of rest = cc in
      let others : pieces (drop 8 rest) ≡ front ++ piece ∷ more = cc in
      let step = step-parts (world seat) first (λ found. walk world (suc found) front) end way in
      let one : step.map ≡ map = same_level step.map map (sym step.is ∙ is) in
      let entry : get map first ≡ Some step.found = ap (λ (words : FinMap word_order ℕ). get words first) (sym one) ∙ step.entry in
      let shorter = length-drop 8 rest in
      let below = level_on world target (suc step.found) end front step.goes is_target in
      record {
        eight = eight;
        at = step.found;
        entry = ap (get map) (sym here) ∙ entry;
        below = below.0;
        is_below = below.1;
        on = λ held held_is longer still keeps. record {
          passed = passed ++ first ∷ [];
          front = front;
          seat = suc step.found;
          are = append_assoc passed (first ∷ []) front ∙ are;
          along = λ is_known. subst (λ (levels : Levels). LeadAlong world 0 (passed ++ first ∷ []) levels (suc step.found)) (sym (keeps is_known).1)
              (along_push world 0 passed above seat (along (keeps is_known).0) first step.found held (record {
                is_level = is ∙ ap (λ m. level m) (sym held_is);
                inner = inner.0;
                entry = ap (λ (words : FinMap word_order ℕ). get words first) held_is ∙ entry;
              }));
          way = step.goes;
          inner = inner.1;
          is_level = below.1;
          is_target = is_target;
          long = omega (arith, long, shorter);
          parts = (piece, more, others);
        };
      }

  pub way_step : OnWayTo world whole end target left map rest above known → left < length rest → StepTo world whole end target left map rest above known
  way_step on some = step_to on.passed on.front on.seat on.are on.along on.way on.inner on.is_level on.is_target on.long on.parts.0 on.parts.1 on.parts.2 some

  ends_at : (passed front : List ℕ) (seat : ℕ) → passed ++ front ≡ whole → (IsTrue known → LeadAlong world 0 passed above seat) → walk world seat front ≡ Some end → world seat ≡ level map →
      world end ≡ level target → length rest ≡ left + 8 * length front → length rest ≤ left → (map ≡ target) × (IsTrue known → LeadAlong world 0 whole above end)
  ends_at passed [] seat are along way is is_target long few = (
    same_level map target (sym is ∙ ap world (same_Some seat end way) ∙ is_target),
    λ is_known. subst (λ ps. LeadAlong world 0 ps above end) (sym (append-nil passed) ∙ are) (subst (LeadAlong world 0 passed above) (same_Some seat end way) (along is_known)),
  )
  ends_at passed (first ∷ front) seat are along way is is_target long few = let never : ⊥ = omega (arith, long, few) in absurd never

  -- Where no more is left the level is the one that is sought.
  pub way_end : OnWayTo world whole end target left map rest above known → length rest ≤ left → (map ≡ target) × (IsTrue known → LeadAlong world 0 whole above end)
  way_end on few = ends_at on.passed on.front on.seat on.are on.along on.way on.is_level on.is_target on.long few

-- To the child that an entry leads to.
module _ {world : World} {whole : List ℕ} {end : ℕ} {target : FinMap word_order ℕ} {left : ℕ} {map : FinMap word_order ℕ} {rest : List ℕ} {above : Levels} {known : Bool}
    (step : StepTo world whole end target left map rest above known) (found : ℕ) (entry : get map (piece_of rest) ≡ Some found) where
  pub way_child : world (suc found) ≡ level step.below
  way_child = ap (λ at. world (suc at)) (same_Some found step.at (sym entry ∙ step.entry)) ∙ step.is_below

  pub way_moved : (held : Bor (ArrayOf word_order)) → held.now.map ≡ map → (more : Levels) (still : Bool) → KeepsOne above known held more still →
      (next : FinMap word_order ℕ) → world (suc found) ≡ level next → OnWayTo world whole end target left next (drop 8 rest) more still
  way_moved held held_is more still keeps next is =
      subst (λ below. OnWayTo world whole end target left below (drop 8 rest) more still) (same_level step.below next (sym way_child ∙ is)) (step.on held held_is more still keeps)

pub never_gone : (map : FinMap word_order ℕ) → gone ≡ level map → ⊥
never_gone map is = cc

pub never_tail : (held : List ℕ) (value : ℕ) (map : FinMap word_order ℕ) → tail held value ≡ level map → ⊥
never_tail held value map is = cc

-- What a climb begins with, at the turn of a seek,
pub turn_begins : (itself : Bool) (world : World) (key : List ℕ) (turn : Turn) (at : IsTurnOf (upward itself) world key turn) (above : Levels) (last : LastRun) →
    (last.run.level.now.map ≡ at.map) × (IsTrue last.known → LeadAlong world 0 at.front above (seat_in turn.child)) →
    AreBeyond last.run.level.now.map turn.piece last.run.entries.0 → last.run.entries.1 ≡ None → {W : Type 0} (has : W → List ℕ → Type 0) (writer : W) → has writer (take turn.depth key) →
    IsBegunAbove itself world (turn.piece, turn.value) above last has writer key
turn_begins itself world key turn at above last behind beyond none has writer given = record {
  seat = seat_in turn.child;
  depth = turn.depth;
  at = at;
  is_level = at.is_level ∙ ap (λ m. level m) (sym behind.0);
  beyond = beyond;
  way = λ known. (behind.1 known, subst (AreKept at.front above) (sym none) tt);
  given = given;
}

-- and at the next entry of a run.
pub entry_begins : (itself : Bool) (world : World) (key : List ℕ) (entry : ℕ × ℕ) (above : Levels) (last : LastRun) → EntryLeads itself world key entry above last.run →
    {W : Type 0} (has : W → List ℕ → Type 0) (writer : W) → has writer (take (8 * length above) key) → IsBegunAbove itself world entry above last has writer key
entry_begins itself world key entry above last leads has writer given = record {
  seat = leads.seat;
  depth = 8 * length above;
  at = leads.at;
  is_level = leads.is_level;
  beyond = leads.beyond;
  way = λ known. (leads.along, leads.kept);
  given = given;
}

-- Bytes that a scan leaves hold no zero.
pub text_after : (look : Look) (world : World) (key after : List ℕ) (found : Option ℕ) → IsText key → IsNeighbour look world key after found → IsText after
text_after look world key after None text none = subst IsText (sym none.1) text
text_after look world key after (Some value) text some = text_of_key after some.1

-- ---- from an entry down

-- How far a climb has come down: the level has the entry, and these beyond it; with what is kept of the level above.
pub record Climbing (itself : Bool) (world : World) (key : List ℕ) (piece value : ℕ) (bytes : List ℕ) (above : Levels) (map : FinMap word_order ℕ)
    (both : List (ℕ × ℕ) × Option (List (ℕ × ℕ))) (known : Bool) : Type 0 where
  pub on : OnFollow (upward itself) world key map piece bytes
  pub entry : get map piece ≡ Some value
  pub beyond : AreBeyond map piece both.0
  pub way : IsTrue known → LeadAlong world 0 on.front above on.seat × AreKept on.front above both.1

pub climb_start : (itself : Bool) (world : World) (key : List ℕ) (entry : ℕ × ℕ) (above : Levels) (last : LastRun) → {W : Type 0} (has : W → List ℕ → Type 0) (writer : W) →
    (begun : IsBegunAbove itself world entry above last has writer key) →
    Climbing itself world key entry.0 entry.1 (take begun.depth key) above last.run.level.now.map last.run.entries last.known
climb_start itself world key entry above last has writer begun =
    let at = begun.at in
    let held : get last.run.level.now.map entry.0 ≡ Some entry.1 = ap (λ (words : FinMap word_order ℕ). get words entry.0)
    (same_level last.run.level.now.map at.map (sym begun.is_level ∙ at.is_level)) ∙ at.held in
    record {
      on = record {
        front = at.front;
        seat = begun.seat;
        way = at.way;
        inner = at.inner;
        spells = at.deep;
        is_level = begun.is_level;
        held = ap (λ (found : Option ℕ). is_some found) held;
        near = at.near;
      };
      entry = held;
      beyond = begun.beyond;
      way = begun.way;
    }

module _ (look_itself : Bool) (world : World) where
  -- What is met first behind a seat to which inner pieces lead is met first behind them.
  near_front : (seat end : ℕ) (front from near : List ℕ) → walk world seat front ≡ Some end → AreInner front → IsNear (upward look_itself) world end from near →
      IsNear (upward look_itself) world seat (front ++ from) (front ++ near)
  near_front seat end [] from near way inner h = subst (λ s. IsNear (upward look_itself) world s from near) (sym (same_Some seat end way)) h
  near_front seat end (piece ∷ front) from near way inner h =
      let step = step-parts (world seat) piece (λ found. walk world (suc found) front) end way in
      moved_near (upward look_itself) world seat step.map step.is piece step.found (front ++ from) (front ++ near) step.entry inner.0
      (near_front (suc step.found) end front from near step.goes inner.1 h)

-- Nothing is above itself.
unmet : (world : World) (ps : List ℕ) → IsFalse (meets (upward false) world ps ps)
unmet world ps = ap is_lt (tied_itself byte_order_total ps)

-- The entries of a level that is left downward are those that are kept below it.
kept_above : (front : List ℕ) (piece : ℕ) (above : Levels) (held : Bor (ArrayOf word_order)) (others : List (ℕ × ℕ)) → AreBeyond held.now.map piece others →
    AreKept (front ++ piece ∷ []) (above ++ Some held ∷ []) (Some others)
kept_above front piece above held others beyond = λ before last levels top front_is above_is.
    let pieces_same = (same_from_push front before piece last front_is).1 in
    let levels_same : Some held ≡ Some top = (same_from_push above levels (Some held) (Some top) above_is).1 in
    subst (λ p. AreBeyond top.now.map p others) pieces_same (subst (λ (b : Bor (ArrayOf word_order)). AreBeyond b.now.map piece others) (same_Some held top levels_same) beyond)

-- A run, where it is known.
abbrev known_run : Bool → Run → Option Run
known_run known run = if known then Some run else None

-- In its level a key stands where it does so if it is known.
run_leads : (world : World) (key : List ℕ) (above : Levels) (run : Run) (known : Bool) → (IsTrue known → Stands world key above run) → RunLeads world key above (known_run known run)
run_leads world key above run true stands = stands refl
run_leads world key above run false stands = tt

module _ {itself : Bool} {world : World} {behind : ℕ → List ℕ} (is_world : IsWorld world behind) {key : List ℕ} {piece value : ℕ} {bytes : List ℕ} {above : Levels}
    {map : FinMap word_order ℕ} {both : List (ℕ × ℕ) × Option (List (ℕ × ℕ))} {known : Bool} (c : Climbing itself world key piece value bytes above map both known) where
  -- The entries that are left lead on.
  pub climb_leads : All (LeadsOn world) both.0
  climb_leads = beyond_lead world map piece both.0 (λ other at held inner. ((is_world.levels c.on.seat map c.on.is_level).leads other at held inner).1) c.beyond

  -- One level further down.
  pub climb_down : (held : Bor (ArrayOf word_order)) → held.now.map ≡ map → (more : Levels) (still : Bool) → KeepsOne above known held more still →
      (below : FinMap word_order ℕ) → IsInner piece → world (suc value) ≡ level below → (next : ℕ × ℕ) (others : List (ℕ × ℕ)) → entries below ≡ next ∷ others →
      Climbing itself world key next.0 next.1 (bytes ++ piece_bytes piece) more below (others, Some both.0) still
  unfolding follow_level
  climb_down held held_is more still keeps below inner is_below next others are =
      let first = first_of_all below next others are in
      record {
        on = follow_level is_world key map piece bytes c.on value c.entry inner below is_below next.0 first.0;
        entry = first.1;
        beyond = first.2;
        way = λ is_known.
            let was = c.way (keeps is_known).0 in
            let passes : Passes world c.on.seat piece value held.now.map = record {
              is_level = c.on.is_level ∙ ap (λ m. level m) (sym held_is);
              inner = inner;
              entry = ap (λ (words : FinMap word_order ℕ). get words piece) held_is ∙ c.entry;
            } in
            let beyond = subst (λ (words : FinMap word_order ℕ). AreBeyond words piece both.0) (sym held_is) c.beyond in
            subst (λ (levels : Levels). LeadAlong world 0 (c.on.front ++ piece ∷ []) levels (suc value) × AreKept (c.on.front ++ piece ∷ []) levels (Some both.0)) (sym (keeps is_known).1)
            (along_push world 0 c.on.front above c.on.seat was.0 piece value held passes, kept_above c.on.front piece above held both.0 beyond);
      }

  -- Where a key was found of which nothing else is behind its entry, it stands there.
  stands_there : (rest after : List ℕ) → pieces after ≡ c.on.front ++ piece ∷ rest → NoneBehind (upward false) world c.on.seat piece rest → (held : Bor (ArrayOf word_order)) →
      held.now.map ≡ map → RunLeads world after above (known_run known (record { level = held; entries = both }))
  stands_there rest after its none held held_is = run_leads world after above (record { level = held; entries = both }) known (λ is_known. record {
    front = c.on.front;
    piece = piece;
    rest = rest;
    parts = its;
    seat = c.on.seat;
    along = (c.way is_known).0;
    is_level = c.on.is_level ∙ ap (λ m. level m) (sym held_is);
    beyond = subst (λ (words : FinMap word_order ℕ). AreBeyond words piece both.0) (sym held_is) c.beyond;
    kept = (c.way is_known).1;
    none = none;
  })

  -- Where it ends in the entry.
  pub climb_last : (held : Bor (ArrayOf word_order)) → held.now.map ≡ map → IsFinal piece →
      RunLeads world (bytes ++ piece_bytes piece) above (known_run known (record { level = held; entries = both }))
  climb_last held held_is final =
      let spelled = subst (λ place. SpellKey (place ++ piece ∷ [])) (place_is is_world key map piece bytes c.on) ((is_world.levels c.on.seat map c.on.is_level).ends piece value c.entry final) in
      stands_there [] (bytes ++ piece_bytes piece) (its_pieces is_world key map piece bytes c.on [] (bytes ++ piece_bytes piece) spelled (sym (append-nil (bytes ++ piece_bytes piece))))
      (λ ps found are is. ap (λ more. meets (upward false) world [] more) (pieces_last piece ps final are))
      held held_is

  -- Where the entry leads to a tail.
  pub climb_tail : (held : Bor (ArrayOf word_order)) → held.now.map ≡ map → (kept : List ℕ) (found : ℕ) → IsInner piece → world (suc value) ≡ tail (pieces kept) found →
      IsText kept → RunLeads world ((bytes ++ piece_bytes piece) ++ kept) above (known_run known (record { level = held; entries = both }))
  climb_tail held held_is kept found inner tailed text =
      let spelled = tail_key is_world key map piece bytes c.on value c.entry inner kept found tailed text in
      stands_there (pieces kept) ((bytes ++ piece_bytes piece) ++ kept)
      (its_pieces is_world key map piece bytes c.on (pieces kept) ((bytes ++ piece_bytes piece) ++ kept) spelled (ap (λ more. (bytes ++ piece_bytes piece) ++ more) (sym (spelling-pieces kept text))))
      (none_child (upward false) world c.on.seat map c.on.is_level piece value (pieces kept) c.entry inner
      (none_tail (upward false) world (suc value) (pieces kept) (pieces kept) found tailed (unmet world (pieces kept))))
      held held_is

-- ---- up to the levels above

module _ (world : World) (key : List ℕ) (text : IsText key) (above : Levels) (held : Bor (ArrayOf word_order)) where
  -- An entry of a run leads up from a key that stands there.
  entry_leads : (entry : ℕ × ℕ) (both : List (ℕ × ℕ) × Option (List (ℕ × ℕ))) → Stands world key above (record { level = held; entries = (entry ∷ both.0, both.1) }) →
      EntryLeads false world key entry above (record { level = held; entries = both })
  entry_leads entry both stands =
      let map = held.now.map in
      let cut = cut_at stands.front stands.piece stands.rest key text stands.parts in
      let long : length stands.front ≡ length above = along_long world 0 stands.front above stands.seat stands.along in
      let way = along_walk world 0 stands.front above stands.seat stands.along in
      let inner = along_inner world 0 stands.front above stands.seat stands.along in
      record {
        seat = stands.seat;
        at = record {
          front = stands.front;
          way = way;
          inner = inner;
          deep = ap (λ n. take (8 * n) key) (sym long) ∙ cut.deep;
          long = ap (λ n. 8 * n) (sym long);
          within = subst (λ n. 8 * n ≤ length key) long cut.within;
          parts = (stands.piece, stands.rest, stands.parts);
          map = map;
          is_level = stands.is_level;
          held = stands.beyond.1;
          near = λ ends end. subst (λ from. IsNear (upward false) world 0 from (stands.front ++ entry.0 ∷ ends)) (sym stands.parts)
              (near_front false world 0 stands.seat stands.front (stands.piece ∷ stands.rest) (entry.0 ∷ ends) way inner
              (turned_near (upward false) world stands.seat map stands.is_level stands.piece entry.0 stands.rest ends stands.none stands.beyond.0 end));
        };
        along = stands.along;
        is_level = stands.is_level;
        beyond = stands.beyond.2;
        kept = stands.kept;
      }

  -- So the next of its entries, where there is one.
  pub next_leads : (old : List (ℕ × ℕ) × Option (List (ℕ × ℕ))) (entry : ℕ × ℕ) (new : List (ℕ × ℕ) × Option (List (ℕ × ℕ))) → old.0 ≡ entry ∷ new.0 → new.1 ≡ old.1 →
      Stands world key above (record { level = held; entries = old }) → EntryLeads false world key entry above (record { level = held; entries = new })
  next_leads old entry new are same stands =
      entry_leads entry new (subst (λ (all : List (ℕ × ℕ) × Option (List (ℕ × ℕ))). Stands world key above (record { level = held; entries = all })) (λ t. (are t, sym same t)) stands)

-- Where a run has nothing left, nothing in its level is above the key.
none_in_level : (world : World) (key : List ℕ) (above : Levels) (run : Run) (stands : Stands world key above run) → run.entries.0 ≡ [] →
    IsNone (upward false) world stands.seat (stands.piece ∷ stands.rest)
none_in_level world key above run stands none =
    turned_none (upward false) world stands.seat run.level.now.map stands.is_level stands.piece stands.rest stands.none (subst (AreBeyond run.level.now.map stands.piece) none stands.beyond)

-- In the first level, nothing is.
pub none_above : (world : World) (key : List ℕ) (above : Levels) (run : Run) (stands : Stands world key above run) → run.entries.0 ≡ [] → above ≡ [] → IsNone (upward false) world 0 (pieces key)
none_above world key above run stands none first =
    let long = along_long world 0 stands.front above stands.seat stands.along ∙ ap length first in
    by stands.front stands.along stands.parts (omega (arith, long))
  where
    by : (front : List ℕ) → LeadAlong world 0 front above stands.seat → pieces key ≡ front ++ stands.piece ∷ stands.rest → length front ≡ 0 → IsNone (upward false) world 0 (pieces key)
    by [] along parts short =
        subst (IsNone (upward false) world 0) (sym parts) (subst (λ s. IsNone (upward false) world s (stands.piece ∷ stands.rest))
        (sym (same_Some 0 stands.seat (along_walk world 0 [] above stands.seat along))) (none_in_level world key above run stands none))
    by (piece ∷ front) along parts short = let never : ⊥ = omega (arith, short) in absurd never

-- What is kept is of the level that is taken off, beyond the piece that is.
last_kept : (front before : List ℕ) (piece : ℕ) (above others : Levels) (held : Bor (ArrayOf word_order)) (kept : Option (List (ℕ × ℕ))) → front ≡ before ++ piece ∷ [] →
    above ≡ others ++ Some held ∷ [] → AreKept front above kept → IfSome kept (AreBeyond held.now.map piece)
last_kept front before piece above others held None front_is above_is are = tt
last_kept front before piece above others held (Some kept) front_is above_is are = are before piece others held front_is above_is

-- One level up: it has the key's own piece, and the key stands in it too.
pub record Risen (world : World) (key : List ℕ) (above : Levels) (held : Bor (ArrayOf word_order)) (kept : Option (List (ℕ × ℕ))) : Type 0 where
  pub within : 8 * length above ≤ length key
  pub there : IsTrue (contains_key held.now.map (piece_of (drop (8 * length above) key)))
  pub are_kept : IfSome kept (AreBeyond held.now.map (piece_of (drop (8 * length above) key)))
  pub stands : (both : List (ℕ × ℕ) × Option (List (ℕ × ℕ))) → AreBeyond held.now.map (piece_of (drop (8 * length above) key)) both.0 → both.1 ≡ None →
      Stands world key above (record { level = held; entries = both })

pub rise : (world : World) (key : List ℕ) → IsText key → (old new : Levels) (run : Run) (held : Bor (ArrayOf word_order)) → old ≡ new ++ Some held ∷ [] →
    Stands world key old run → run.entries.0 ≡ [] → Risen world key new held run.entries.1
rise world key text old new run held are stands none =
    let popped = along_pop world 0 stands.front new held stands.seat (subst (λ above. LeadAlong world 0 stands.front above stands.seat) are stands.along) in
    let parts : pieces key ≡ popped.before ++ popped.piece ∷ stands.piece ∷ stands.rest = stands.parts ∙ ap (λ front. front ++ stands.piece ∷ stands.rest) popped.are ∙
    append_assoc popped.before (popped.piece ∷ []) (stands.piece ∷ stands.rest) in
    let cut = cut_at popped.before popped.piece (stands.piece ∷ stands.rest) key text parts in
    let long : length popped.before ≡ length new = along_long world 0 popped.before new popped.middle popped.along in
    let begins : piece_of (drop (8 * length new) key) ≡ popped.piece = ap (λ n. piece_of (drop (8 * n) key)) (sym long) ∙ cut.begins in
    let behind = subst (λ s. IsNone (upward false) world s (stands.piece ∷ stands.rest)) (sym popped.is_end) (none_in_level world key old run stands none) in
    record {
      within = subst (λ n. 8 * n ≤ length key) long cut.within;
      there = ap (contains_key held.now.map) begins ∙ ap (λ (found : Option ℕ). is_some found) popped.passes.entry;
      are_kept = subst (λ p. IfSome run.entries.1 (AreBeyond held.now.map p)) (sym begins) (last_kept stands.front popped.before popped.piece old new held run.entries.1 popped.are are stands.kept);
      stands = λ both beyond none_kept. record {
        front = popped.before;
        piece = popped.piece;
        rest = stands.piece ∷ stands.rest;
        parts = parts;
        seat = popped.middle;
        along = popped.along;
        is_level = popped.passes.is_level;
        beyond = subst (λ p. AreBeyond held.now.map p both.0) begins beyond;
        kept = subst (AreKept popped.before new) (sym none_kept) tt;
        none = none_child (upward false) world popped.middle held.now.map popped.passes.is_level popped.piece popped.at (stands.piece ∷ stands.rest) popped.passes.entry popped.passes.inner behind;
      };
    }

-- No level above one is missing.
pub rise_some : (world : World) (key : List ℕ) (old new : Levels) (run : Run) → old ≡ new ++ None ∷ [] → Stands world key old run → ⊥
rise_some world key old new run are stands = along_some world 0 stands.front new stands.seat (subst (λ above. LeadAlong world 0 stands.front above stands.seat) are stands.along)
