-- The keys of one node that another has, or lacks.
use Rattle.std.specs.Prelude.{◌≡◌, ℕ, suc, ◌+◌, ◌*◌, ◌^◌, ◌<◌, ◌≤◌, Bool, not, List, [], ◌∷◌, is_some, None, Some, slice_get, if◌then◌else◌}
use Rattle.judy_model.specs.WordBytes.{number_of}
use Rattle.judy_node.specs.Trees.{Pairs, Tree, branch_pairs}
use Rattle.judy_node.specs.Steps.{IsKeyOf}
use Rattle.judy_query.specs.Parts.{value_of}
use Rattle.judy_sets.specs.declared.meets.Lot.{Lot}
use Rattle.judy_sets.specs.declared.meets.Lot.TheVariants.{In, Free, Spread}

-- Whether a key is sought: one that pairs have, or one that they lack.
abbrev pub is_sought : Bool → Pairs → ℕ → Bool
is_sought wanted pairs key = if wanted then is_some (value_of pairs key) else not (is_some (value_of pairs key))

-- How many keys of pairs, each so much higher, are sought among others.
unfoldable pub found : Bool → ℕ → Pairs → Pairs → ℕ
found wanted by [] others = 0
found wanted by (pair ∷ pairs) others = if is_sought wanted others (by + pair.0) then suc (found wanted by pairs others) else found wanted by pairs others

-- So many are counted of all, or at least as many as are enough.
pub record IsCounted (enough all count : ℕ) : Type 0 where
  pub most : count ≤ all
  pub exact : count < enough → count ≡ all

-- The words of a width, each so much higher, lie in one child of a branch, or where it has no keys.
abbrev pub IsPlaced : ℕ → ℕ → ℕ → List ℕ → List ℕ → List Tree → Lot → Type 0
IsPlaced width by below skipped bytes kids (In place rest) =
    (byte : ℕ) × IsKeyOf (256 ^ below) (number_of skipped * 256) by byte rest × (slice_get bytes place ≡ Some byte) × (rest + 256 ^ width ≤ 256 ^ below)
IsPlaced width by below skipped bytes kids Free = (key : ℕ) → key < 256 ^ width → value_of (branch_pairs below skipped bytes kids) (by + key) ≡ None
IsPlaced width by below skipped bytes kids Spread = Unit {0}
