-- How far the levels lead on the way of a key.
use Rattle.std.specs.Prelude.{Bool, true, false, ◌≡◌, ◌≢◌, ℕ, suc, ◌-◌, ◌≤◌, List, [], ◌∷◌, ◌++◌, length, drop, Option, None, Some}
use Rattle.std.specs.FinMap.{FinMap, get}
use Rattle.judy_model.specs.Keys.{word_order}
use Rattle.judy_sl.specs.declared.arena.Arena.{Arena}
use Rattle.judy_sl.specs.declared.arena.Place.{Place}
use Rattle.judy_sl.specs.declared.arena.Place.TheVariants.{Root, Below}
use Rattle.judy_sl.specs.declared.arena.Way.{Way}
use Rattle.judy_sl.specs.declared.arena.Way.TheVariants.{At, Gap, Clash}
use Rattle.judy_sl.specs.Pieces.{pieces, piece_of, IsInner, IsFinal, IsText, AreInner}
use Rattle.judy_sl.specs.World.{World, Node, gone, tail, level, walk}
use Rattle.judy_sl.specs.Arenas.{world_of}
use Rattle.judy_sl.specs.Stepped.{entry_under}

-- The seat of a place: 0 for the first level, and else that of the child.
abbrev pub seat_of : Place → ℕ
seat_of (Root piece) = 0
seat_of (Below at piece) = suc at

-- Whether a place is below the first level.
abbrev pub is_below : Place → Bool
is_below (Root piece) = false
is_below (Below at piece) = true

-- The piece of a place.
abbrev pub piece_at : Place → ℕ
piece_at (Root piece) = piece
piece_at (Below at piece) = piece

-- The place of a piece of the first level, or of the level of a child.
abbrev pub place_in : Option ℕ → ℕ → Place
place_in None piece = Root piece
place_in (Some at) piece = Below at piece

-- The seat of the first level, or of a child.
abbrev pub seat_in : Option ℕ → ℕ
seat_in None = 0
seat_in (Some at) = suc at

-- Levels lead along the first pieces of a key to a seat, behind which other pieces stand.
pub record LeadsTo (world : World) (key : List ℕ) (seat : ℕ) (rest : List ℕ) : Type 0 where
  pub front : List ℕ
  pub inner : AreInner front
  pub way : walk world 0 front ≡ Some seat
  pub parts : pieces key ≡ front ++ rest

-- The places of the levels that a way passes from an entry on: none where no level stands there, nor where the key ends in it.
abbrev pub passed_there : Node → ℕ → List ℕ → List ℕ
passed_there gone at more = []
passed_there (tail held value) at more = []
passed_there (level map) at more = at ∷ more

abbrev pub passed_under : Option ℕ → List ℕ → (ℕ → List ℕ) → List ℕ
passed_under None rest go = []
passed_under (Some at) [] go = []
passed_under (Some at) (piece ∷ rest) go = go at

-- The places of the levels that a way passes from a seat on along pieces, the first one first.
abbrev pub passed_from : World → ℕ → List ℕ → List ℕ
passed_from world seat [] = []
passed_from world seat (piece ∷ rest) = passed_under (entry_under (world seat) piece) rest (λ at. passed_there (world (suc at)) at (passed_from world (suc at) rest))

-- The places of the levels below the first that the way of a key passes.
abbrev pub levels_passed : World → List ℕ → List ℕ
levels_passed world key = passed_from world 0 (pieces key)

-- The node has the value of a key there, of which these pieces are left: a tail of just these, or a level with an
-- entry under the last.
abbrev pub HasValue : Node → ℕ → List ℕ → ℕ → Type 0
HasValue gone piece rest value = ⊥
HasValue (tail held kept) piece rest value = (held ≡ rest) × (rest ≢ []) × (kept ≡ value)
HasValue (level map) piece rest value = (rest ≡ piece ∷ []) × IsFinal piece × (get map piece ≡ Some value)

-- The value of the key stands at the place.
pub record IsFound (world : World) (key : List ℕ) (place : Place) : Type 0 where
  pub rest : List ℕ
  pub leads : LeadsTo world key (seat_of place) rest
  pub value : ℕ
  pub has : HasValue (world (seat_of place)) (piece_at place) rest value

-- What is left of a key, so many bytes.
abbrev pub left_of : List ℕ → ℕ → List ℕ
left_of key left = drop (length key - left) key

-- The way has come to a level, and this is left of the key.
pub record IsOnWay (world : World) (key : List ℕ) (seat : ℕ) (map : FinMap word_order ℕ) (rest : List ℕ) : Type 0 where
  pub leads : LeadsTo world key seat (pieces rest)
  pub is_level : world seat ≡ level map
  pub text : IsText key → IsText rest
  pub is_left : rest ≡ left_of key (length rest)
  pub within : length rest ≤ length key

-- The level of the place has no entry under the next piece of the key, of which so many bytes are left.
pub record IsGap (world : World) (key : List ℕ) (place : Place) (left : ℕ) : Type 0 where
  pub within : left ≤ length key
  pub leads : LeadsTo world key (seat_of place) (pieces (left_of key left))
  pub text : IsText (left_of key left)
  pub map : FinMap word_order ℕ
  pub is_level : world (seat_of place) ≡ level map
  pub next : piece_at place ≡ piece_of (left_of key left)
  pub absent : get map (piece_at place) ≡ None

-- The way comes by an entry of a level, that of a place, to a tail of another key, so many bytes before the key's end.
pub record IsClash (world : World) (key : List ℕ) (from : Place) (at left : ℕ) : Type 0 where
  pub map : FinMap word_order ℕ
  pub is_level : world (seat_of from) ≡ level map
  pub inner : IsInner (piece_at from)
  pub entry : get map (piece_at from) ≡ Some at
  pub leads_from : LeadsTo world key (seat_of from) (piece_at from ∷ pieces (left_of key left))
  pub within : left ≤ length key
  pub leads : LeadsTo world key (suc at) (pieces (left_of key left))
  pub text : IsText (left_of key left)
  pub held : List ℕ
  pub value : ℕ
  pub is_tail : world (suc at) ≡ tail held value
  pub other : held ≢ pieces (left_of key left)

-- How the way of a key ends.
abbrev pub IsWay : Arena → List ℕ → Way → Type 0
IsWay arena key (At place) = IsFound (world_of arena) key place
IsWay arena key (Gap place left) = IsGap (world_of arena) key place left
IsWay arena key (Clash from at left) = IsClash (world_of arena) key from at left

-- It ends in the first level, which has no entry for the key's first piece.
abbrev pub ends_at_first : Place → Bool
ends_at_first (Root piece) = true
ends_at_first (Below at piece) = false

abbrev pub ends_first : Way → Bool
ends_first (At place) = false
ends_first (Gap place left) = ends_at_first place
ends_first (Clash from at left) = false

-- It ends at a tail of another key.
abbrev pub clashes : Way → Bool
clashes (At place) = false
clashes (Gap place left) = false
clashes (Clash from at left) = true

-- The way ends without the key's value.
abbrev pub IsNew : Way → Type 0
IsNew (At place) = ⊥
IsNew (Gap place left) = Unit {0}
IsNew (Clash from at left) = Unit {0}
