-- The levels of an array as seats: a seat has nothing, a tail or a level. Seat 0 has the first level, and each
-- entry of a level under a piece that isn't final leads to the seat behind its value.
use Rattle.std.specs.Prelude.{ℕ, suc, cond, List, [], ◌∷◌, Option, None, Some}
use Rattle.std.specs.FinMap.{FinMap, get}
use Rattle.std.specs.Ordering.{eq_by_cmp}
use Rattle.judy_model.specs.Keys.{word_order, byte_order}

-- What a seat has: nothing; the rest of one key, by its pieces, and the key's value; or a level, which maps
-- pieces to values where a key ends, and else to what leads on.
pub data Node : Type 0 where
  gone : Node
  tail : List ℕ → ℕ → Node
  level : FinMap word_order ℕ → Node

-- What each seat has.
abbrev pub World : Type 0
World = ℕ → Node

-- What is found behind an entry: its value where no piece is left, and else what the way on finds.
abbrev pub at_entry : Option ℕ → List ℕ → (ℕ → Option ℕ) → Option ℕ
at_entry None rest go = None
at_entry (Some found) [] go = Some found
at_entry (Some found) (piece ∷ rest) go = go found

-- What is found at a node under pieces, of which the first is given apart.
abbrev pub at_node : Node → ℕ → List ℕ → (ℕ → Option ℕ) → Option ℕ
at_node gone piece rest go = None
at_node (tail held value) piece rest go = cond (eq_by_cmp byte_order held (piece ∷ rest)) (Some value) None
at_node (level map) piece rest go = at_entry (get map piece) rest go

-- What is found from a seat under pieces.
abbrev pub lookup : World → ℕ → List ℕ → Option ℕ
lookup world seat [] = None
lookup world seat (piece ∷ rest) = at_node (world seat) piece rest (λ found. lookup world (suc found) rest)

-- One step of a way of levels, by what the level has under the piece.
abbrev pub step_entry : Option ℕ → (ℕ → Option ℕ) → Option ℕ
step_entry None go = None
step_entry (Some found) go = go found

-- The same at a node: only a level leads on.
abbrev pub step_node : Node → ℕ → (ℕ → Option ℕ) → Option ℕ
step_node gone piece go = None
step_node (tail held value) piece go = None
step_node (level map) piece go = step_entry (get map piece) go

-- The seat to which pieces lead from a seat, through levels alone.
abbrev pub walk : World → ℕ → List ℕ → Option ℕ
walk world seat [] = Some seat
walk world seat (piece ∷ rest) = step_node (world seat) piece (λ found. walk world (suc found) rest)
