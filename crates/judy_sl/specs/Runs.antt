-- The entries of a level that are still to come, the levels above it, and what a walk up through the keys finds by them.
use Rattle.std.specs.Prelude.{◌≡◌, ℕ, suc, ◌*◌, ◌≤◌, Bool, false, IsTrue, IsFalse, List, [], ◌∷◌, ◌++◌, length, take, Option, None, Some, if◌then◌else◌}
use Rattle.std.specs.Borrow.{Bor}
use Rattle.std.specs.FinMap.{FinMap, get}
use Rattle.judy_model.specs.Arrays.{ArrayOf}
use Rattle.judy_model.specs.Keys.{word_order}
use Rattle.judy_sl.specs.declared.scans.Side.TheVariants.{Above}
use Rattle.judy_sl.specs.declared.runs.Run.{Run}
use Rattle.judy_sl.specs.declared.runs.LastRun.{LastRun}
use Rattle.judy_sl.specs.Pieces.{IsInner, AreInner, ArePieces, pieces}
use Rattle.judy_sl.specs.World.{World, level, lookup, walk}
use Rattle.judy_sl.specs.Scans.{upward, meets, IsNearestEntry, IsNone, IsTurnAt, IsNeighbour}

-- The entries of a level beyond a piece, by ascending piece.
abbrev pub AreBeyond : FinMap word_order ℕ → ℕ → List (ℕ × ℕ) → Type 0
AreBeyond map piece [] = IsNearestEntry Above false map piece None
AreBeyond map piece (entry ∷ others) = IsNearestEntry Above false map piece (Some entry.0) × (get map entry.0 ≡ Some entry.1) × AreBeyond map entry.0 others

-- The levels above one, the first level first.
abbrev pub Levels : Type 0
Levels = List (Option (Bor (ArrayOf word_order)))

-- A seat has a level, in which an inner piece leads to a place.
pub record Passes (world : World) (seat piece at : ℕ) (map : FinMap word_order ℕ) : Type 0 where
  pub is_level : world seat ≡ level map
  pub inner : IsInner piece
  pub entry : get map piece ≡ Some at

-- There is such a level.
abbrev pub PassesLevel : World → ℕ → ℕ → ℕ → Option (Bor (ArrayOf word_order)) → Type 0
PassesLevel world seat piece at None = ⊥
PassesLevel world seat piece at (Some passed) = Passes world seat piece at passed.now.map

-- These levels, one a piece, lead from a seat along pieces to another seat.
abbrev pub LeadAlong : World → ℕ → List ℕ → Levels → ℕ → Type 0
LeadAlong world seat [] [] end = seat ≡ end
LeadAlong world seat [] (passed ∷ above) end = ⊥
LeadAlong world seat (piece ∷ front) [] end = ⊥
LeadAlong world seat (piece ∷ front) (passed ∷ above) end = (at : ℕ) × PassesLevel world seat piece at passed × LeadAlong world (suc at) front above end

-- What is kept of the level above is its entries beyond the piece that led down: the last of those that lead to the level of a run.
abbrev pub AreKept : List ℕ → Levels → Option (List (ℕ × ℕ)) → Type 0
AreKept front above None = Unit {0}
AreKept front above (Some kept) = (before : List ℕ) (piece : ℕ) (others : Levels) (held : Bor (ArrayOf word_order)) → front ≡ before ++ piece ∷ [] →
    above ≡ others ++ Some held ∷ [] → AreBeyond held.now.map piece kept

-- A key stands in the level of a run, which is below these others: the run has the entries beyond the key's own piece there, and
-- no key behind that piece is above it.
pub record Stands (world : World) (key : List ℕ) (above : Levels) (run : Run) : Type 0 where
  pub front : List ℕ
  pub piece : ℕ
  pub rest : List ℕ
  pub parts : pieces key ≡ front ++ piece ∷ rest
  pub seat : ℕ
  pub along : LeadAlong world 0 front above seat
  pub is_level : world seat ≡ level run.level.now.map
  pub beyond : AreBeyond run.level.now.map piece run.entries.0
  pub kept : AreKept front above run.entries.1
  pub none : (ps : List ℕ) (value : ℕ) → ArePieces (piece ∷ ps) → lookup world seat (piece ∷ ps) ≡ Some value → IsFalse (meets (upward false) world rest ps)

-- At an entry of the level of a run is the turn above a key, and the run has those beyond it.
pub record EntryLeads (itself : Bool) (world : World) (key : List ℕ) (entry : ℕ × ℕ) (above : Levels) (run : Run) : Type 0 where
  pub seat : ℕ
  pub at : IsTurnAt (upward itself) world key seat entry.0 entry.1 (8 * length above)
  pub along : LeadAlong world 0 at.front above seat
  pub is_level : world seat ≡ level run.level.now.map
  pub beyond : AreBeyond run.level.now.map entry.0 run.entries.0
  pub kept : AreKept at.front above run.entries.1

-- At the entry that is next is the turn above a key; or no key is above it, and it stands in the level of the run.
abbrev pub IsNextEntry : World → List ℕ → Levels → Run → Option (ℕ × ℕ) → Type 0
IsNextEntry world key above run None = IsNone (upward false) world 0 (pieces key) × Stands world key above run
IsNextEntry world key above run (Some entry) = EntryLeads false world key entry above run

-- The run of the key that was found last, where one was.
abbrev pub last_run : LastRun → Option Run
last_run last = if last.known then Some last.run else None

-- A key stands in the level of a run that there is.
abbrev pub RunLeads : World → List ℕ → Levels → Option Run → Type 0
RunLeads world key above None = Unit {0}
RunLeads world key above (Some run) = Stands world key above run

-- Levels lead along the pieces in so many bytes of a key to a level with this map.
pub record LeadsToLevel (world : World) (key : List ℕ) (depth : ℕ) (map : FinMap word_order ℕ) : Type 0 where
  pub front : List ℕ
  pub seat : ℕ
  pub way : walk world 0 front ≡ Some seat
  pub inner : AreInner front
  pub is_level : world seat ≡ level map
  pub long : depth ≡ 8 * length front
  pub within : depth ≤ length key
  pub parts : (piece : ℕ) × (rest : List ℕ) × (pieces key ≡ front ++ piece ∷ rest)

-- There is such a level.
abbrev pub HasLevel : World → List ℕ → ℕ → Type 0
HasLevel world key depth = (map : FinMap word_order ℕ) × LeadsToLevel world key depth map

-- It has this map, and these are the levels above it, where they are known.
abbrev pub IsLevelBehind : World → List ℕ → ℕ → Levels → Bool → FinMap word_order ℕ → Type 0
IsLevelBehind world key depth above known found = (map : FinMap word_order ℕ) (leads : LeadsToLevel world key depth map) →
    (found ≡ map) × (IsTrue known → LeadAlong world 0 leads.front above leads.seat)

-- A walk leaves the least key above the bytes, and answers its value; or there is none, and they stay.
abbrev pub IsAbove : Bool → World → List ℕ → List ℕ → Option ℕ → Type 0
IsAbove itself = IsNeighbour (upward itself)

-- And they then stand in the level of the run, where one is known.
abbrev pub IsClimbed : Bool → World → List ℕ → Levels → LastRun → Option ℕ → List ℕ → Type 0
IsClimbed itself world key above last found after = IsAbove itself world key after found × RunLeads world after above (last_run last)

-- At an entry of the level of a run is the turn above a key, before which a writer has its bytes. The run has the entries beyond it; and
-- where it is known, the levels above are those that lead there.
pub record IsBegunAbove (itself : Bool) (world : World) (entry : ℕ × ℕ) (above : Levels) (last : LastRun) {W : Type 0} (has : W → List ℕ → Type 0) (writer : W) (key : List ℕ) : Type 0 where
  pub seat : ℕ
  pub depth : ℕ
  pub at : IsTurnAt (upward itself) world key seat entry.0 entry.1 depth
  pub is_level : world seat ≡ level last.run.level.now.map
  pub beyond : AreBeyond last.run.level.now.map entry.0 last.run.entries.0
  pub way : IsTrue last.known → LeadAlong world 0 at.front above seat × AreKept at.front above last.run.entries.1
  pub given : has writer (take depth key)
