-- What the levels of an array keep.
use Rattle.std.specs.Prelude.{◌≡◌, ◌≢◌, ℕ, suc, ◌*◌, ◌≤◌, List, [], ◌∷◌, ◌++◌, length, Some}
use Rattle.std.specs.FinMap.{FinMap, empty, get}
use Rattle.judy_model.specs.Keys.{word_order}
use Rattle.judy_sl.specs.Pieces.{IsInner, IsFinal, SpellKey}
use Rattle.judy_sl.specs.World.{World, gone, tail, level}
use Rattle.judy_model.specs.declared.keys.TheConstants.{LONGEST_STRING}

-- What holds of a level behind the pieces of a place: an entry under an inner piece leads to a seat that has
-- something, behind the same pieces and that one; an entry under a final piece ends a key; and no key is too long.
pub record FitsBehind (world : World) (behind : ℕ → List ℕ) (place : List ℕ) (map : FinMap word_order ℕ) : Type 0 where
  pub leads : (piece found : ℕ) → get map piece ≡ Some found → IsInner piece → (behind (suc found) ≡ place ++ piece ∷ []) × (world (suc found) ≢ gone)
  pub ends : (piece value : ℕ) → get map piece ≡ Some value → IsFinal piece → SpellKey (place ++ piece ∷ [])
  pub short : 8 * length place ≤ LONGEST_STRING

-- What always holds of the seats. To each seat the same pieces lead, however one comes there (`behind`): none
-- to the first level, and to what an inner piece leads to, those of its level and that piece. So no two
-- entries lead to one seat. No level but the first is empty, and a tail is the rest of a key.
pub record IsWorld (world : World) (behind : ℕ → List ℕ) : Type 0 where
  pub first : behind 0 ≡ []
  pub levels : (seat : ℕ) (map : FinMap word_order ℕ) → world seat ≡ level map → FitsBehind world behind (behind seat) map
  pub used : (at : ℕ) (map : FinMap word_order ℕ) → world (suc at) ≡ level map → map ≢ empty
  pub tails : (seat : ℕ) (held : List ℕ) (value : ℕ) → world seat ≡ tail held value → SpellKey (behind seat ++ held)

-- An entry of a level leads to the child at a place.
pub record IsLed (world : World) (at : ℕ) : Type 0 where
  pub seat : ℕ
  pub map : FinMap word_order ℕ
  pub is_level : world seat ≡ level map
  pub piece : ℕ
  pub inner : IsInner piece
  pub entry : get map piece ≡ Some at

-- An entry leads to each child that is there, so a place to which none leads is free.
abbrev pub AllLed : World → Type 0
AllLed world = (at : ℕ) → world (suc at) ≢ gone → IsLed world at
