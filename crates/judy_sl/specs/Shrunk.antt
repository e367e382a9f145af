-- What an arena becomes where it loses a key.
use Rattle.std.specs.Prelude.{◌≡◌, ◌≢◌, ℕ, suc, ◌≤◌, ◌⊎◌, List, [], ◌∷◌, length, Option, None, Some}
use Rattle.std.specs.FinMap.{FinMap, get, len}
use Rattle.judy_model.specs.Keys.{word_order}
use Rattle.judy_model.specs.Arrays.{ArrayOf, with_map, del}
use Rattle.judy_sl.specs.Children.{Child, Free, Tail, Level}
use Rattle.judy_sl.specs.declared.arena.Arena.{Arena}
use Rattle.judy_sl.specs.declared.arena.Place.{Place}
use Rattle.judy_sl.specs.declared.arena.Place.TheVariants.{Root, Below}
use Rattle.judy_sl.specs.declared.shrink.Cut.{Cut}
use Rattle.judy_sl.specs.declared.shrink.Removed.{Removed}
use Rattle.judy_sl.specs.Pieces.{pieces, IsInner, IsFinal, IsText, ArePieces}
use Rattle.judy_sl.specs.World.{World, Node, gone, tail, level, lookup}
use Rattle.judy_sl.specs.WorldInvariants.{IsLed, AllLed}
use Rattle.judy_sl.specs.Arenas.{world_of, node_of, child_at, IsArena}
use Rattle.judy_sl.specs.Places.{with_child}
use Rattle.judy_sl.specs.Ways.{LeadsTo, seat_of, piece_at, left_of}
use Rattle.judy_sl.specs.Grown.{IsChange}

-- An array of words without a key.
abbrev pub without : ArrayOf word_order → ℕ → ArrayOf word_order
without words piece = with_map words (del words.map piece)

-- A child without an entry of its level; a tail has none.
abbrev pub child_without : Child → ℕ → Child
child_without Free piece = Free
child_without (Tail rest) piece = Tail rest
child_without (Level keys words) piece = Level keys (without words piece)

-- An arena without the entry at a place.
abbrev pub place_without : Arena → Place → Arena
place_without arena (Root piece) = record arena { root = without arena.root piece }
place_without arena (Below at piece) = with_child arena at (child_without (child_at arena at) piece)

-- Nothing stands at a place any more, and all else stays.
pub record IsVacated (before after : Arena) (at : ℕ) : Type 0 where
  pub here : child_at after at ≡ Free
  pub elsewhere : (k : ℕ) → k ≢ at → child_at after k ≡ child_at before k
  pub root : after.root ≡ before.root

-- ---- one key alone

-- A level has no other entry.
abbrev pub OnlyEntry : FinMap word_order ℕ → ℕ → Type 0
OnlyEntry map piece = (other : ℕ) → other ≢ piece → get map other ≡ None

-- Behind an entry one key goes on, or ends there.
abbrev pub EntryLone : Option ℕ → List ℕ → (ℕ → Type 0) → Type 0
EntryLone None rest go = ⊥
EntryLone (Some found) [] go = Unit {0}
EntryLone (Some found) (piece ∷ rest) go = go found

-- The same at a node: a tail has just these pieces, and a level this one entry, behind which one key goes on.
abbrev pub NodeLone : Node → ℕ → List ℕ → (ℕ → Type 0) → Type 0
NodeLone gone piece rest go = ⊥
NodeLone (tail held value) piece rest go = held ≡ piece ∷ rest
NodeLone (level map) piece rest go = OnlyEntry map piece × EntryLone (get map piece) rest go

-- At a child, and all the way down from it, stands one key alone, with these pieces.
abbrev pub IsLone : World → ℕ → List ℕ → Type 0
IsLone world at [] = ⊥
IsLone world at (piece ∷ rest) = NodeLone (world (suc at)) piece rest (λ found. IsLone world found rest)

-- ---- where a key is cut off

-- The first level may become empty; another only where it has a second entry.
abbrev pub IsWide : ℕ → FinMap word_order ℕ → Type 0
IsWide seat map = (seat ≡ 0) ⊎ (2 ≤ len map)

-- What stands behind the entry at which a key is cut off: nothing, where the key ends there; or else a child, with
-- this key alone where a condition holds.
abbrev pub IsCutChild : World → List ℕ → FinMap word_order ℕ → ℕ → List ℕ → Option ℕ → ℕ → Type 0 → Type 0
IsCutChild world key map piece rest None left holds = (rest ≡ []) × IsFinal piece × ((value : ℕ) × (get map piece ≡ Some value))
IsCutChild world key map piece rest (Some at) left holds = (get map piece ≡ Some at) × IsInner piece × IsText (left_of key left) × (rest ≡ pieces (left_of key left)) ×
    (left ≤ length key) × (holds → IsLone world at rest)

-- The key is cut off where its way leaves that of every other key, where a condition holds.
pub record IsCutWhere (holds : Type 0) (world : World) (key : List ℕ) (cut : Cut) : Type 0 where
  pub rest : List ℕ
  pub leads : LeadsTo world key (seat_of cut.place) (piece_at cut.place ∷ rest)
  pub deep : cut.depth ≡ length leads.front
  pub map : FinMap word_order ℕ
  pub is_level : world (seat_of cut.place) ≡ level map
  pub wide : IsWide (seat_of cut.place) map
  pub child : IsCutChild world key map (piece_at cut.place) rest cut.below cut.left holds

-- It is cut off so, and has this value; or it isn't there.
abbrev pub IsCut : World → List ℕ → Option (Cut × ℕ) → Type 0
IsCut world key None = lookup world 0 (pieces key) ≡ None
IsCut world key (Some found) = IsCutWhere (Unit {0}) world key found.0 × (lookup world 0 (pieces key) ≡ Some found.1)

-- The deeper of two cuts is taken where its level is the first on the way, or has other entries.
abbrev pub IsDeeper : Option Cut → FinMap word_order ℕ → Cut → Cut → Type 0
IsDeeper before map here cut = ((cut ≡ here) × ((before ≡ None) ⊎ (2 ≤ len map))) ⊎ ((before ≡ Some cut) × (len map ≤ 1))

-- ---- what nothing leads to

-- No entry leads to the child at a place.
abbrev pub IsUnled : World → ℕ → Type 0
IsUnled world at = (seat : ℕ) (map : FinMap word_order ℕ) (piece : ℕ) → world seat ≡ level map → get map piece ≡ Some at → IsInner piece → ⊥

-- To each child the entries of one level lead.
abbrev pub IsLedOnce : World → Type 0
IsLedOnce world = (seat other : ℕ) (map more : FinMap word_order ℕ) (piece next at : ℕ) → world seat ≡ level map → get map piece ≡ Some at → IsInner piece →
    world other ≡ level more → get more next ≡ Some at → IsInner next → seat ≡ other

-- To one child alone no entry leads; there stands one key, with these pieces.
pub record IsOrphan (world : World) (at : ℕ) (ps : List ℕ) : Type 0 where
  pub unled : IsUnled world at
  pub led : (other : ℕ) → other ≢ at → world (suc other) ≢ gone → IsLed world other
  pub once : IsLedOnce world
  pub lone : IsLone world at ps

-- The first level stayed, and each child that is still there is the one that was.
pub record IsLeft (before after : Arena) : Type 0 where
  pub root : after.root ≡ before.root
  pub children : (at : ℕ) → node_of (child_at after at) ≢ gone → child_at after at ≡ child_at before at

-- What stood loose is gone, and what is found stayed.
pub record IsCleared (before after : Arena) : Type 0 where
  pub is_arena : IsArena after
  pub led : AllLed (world_of after)
  pub same : (ps : List ℕ) → ArePieces ps → lookup (world_of after) 0 ps ≡ lookup (world_of before) 0 ps
  pub left : IsLeft before after

-- The value of a key that was taken out, where one was.
abbrev pub value_removed : Option Removed → Option ℕ
value_removed None = None
value_removed (Some removed) = Some removed.value

-- A key was taken out, where it was there, and nothing is left to which no entry leads.
pub record IsShrunk (before after : Arena) (key : List ℕ) : Type 0 where
  pub is_arena : IsArena after
  pub led : AllLed (world_of after)
  pub change : IsChange (world_of before) (world_of after) (pieces key) None
