-- What takes the place of a tail that a second key meets.
use Rattle.std.specs.Prelude.{◌≡◌, ◌≢◌, ℕ, ◌<◌, ◌≤◌, List, [], ◌∷◌, ◌++◌, length, drop, Option, None, Some}
use Rattle.std.specs.Map.{keys_of}
use Rattle.judy_model.specs.Keys.{word_order}
use Rattle.judy_model.specs.Arrays.{ArrayOf, empty_array}
use Rattle.judy_word.specs.Writes.{with_value}
use Rattle.judy_sl.specs.declared.branches.Twig.{Twig}
use Rattle.judy_sl.specs.declared.branches.Branch.{Branch}
use Rattle.judy_sl.specs.Pieces.{pieces, piece_of, IsText, AreInner}

-- A level with one entry, which leads nowhere yet.
abbrev pub single : ℕ → ArrayOf word_order
single piece = with_value (empty_array 18446744073709551615) piece 0

-- Such levels, each beside its piece.
abbrev pub AreSingle : List (ℕ × ArrayOf word_order) → Type 0
AreSingle [] = Unit {0}
AreSingle (entry ∷ rest) = (entry.1 ≡ single entry.0) × AreSingle rest

-- What stands under the first piece of a rest: its value where that is the last piece, and else 0, until it leads on.
abbrev pub entry_of : Option Twig → ℕ → ℕ
entry_of None value = value
entry_of (Some twig) value = 0

-- What goes on behind the first piece of a rest.
abbrev pub IsTwig : List ℕ → ℕ → Option Twig → Type 0
IsTwig rest value None = length rest < 8
IsTwig rest value (Some twig) = (8 ≤ length rest) × (twig.piece ≡ piece_of rest) × (twig.rest.now ≡ drop 8 rest) × (twig.value ≡ value)

-- The first piece of a rest was put into a level.
pub record IsSprout (before after : ArrayOf word_order) (rest : List ℕ) (value : ℕ) (twig : Option Twig) : Type 0 where
  pub level : after ≡ with_value before (piece_of rest) (entry_of twig value)
  pub behind : IsTwig rest value twig

-- The branch of a tail of these bytes and the rest of another key: the two have the pieces of the upper levels in
-- common, and then differ.
pub record IsBuilt (tail : List ℕ) (value : ℕ) (key : List ℕ) (branch : Branch) : Type 0 where
  pub held : List ℕ
  pub rest : List ℕ
  pub singles : AreSingle branch.upper.items
  pub inner : AreInner (keys_of branch.upper.items)
  pub held_parts : pieces tail ≡ keys_of branch.upper.items ++ pieces held
  pub rest_parts : pieces key ≡ keys_of branch.upper.items ++ pieces rest
  pub held_text : IsText held
  pub rest_text : IsText rest
  pub held_short : length held ≤ length tail
  pub rest_short : length rest ≤ length key
  pub differ : piece_of held ≢ piece_of rest
  pub middle : ArrayOf word_order
  pub old : IsSprout (empty_array 18446744073709551615) middle held value branch.old
  pub new : IsSprout middle branch.fork rest 0 branch.new
