-- Seats whose values are words.
use Rattle.std.specs.Prelude.{◌≡◌, ℕ, Some}
use Rattle.std.specs.FinMap.{get}
use Rattle.judy_model.specs.Keys.{IsWord}
use Rattle.judy_sl.specs.World.{Node, gone, tail, level}

-- What a node has is words: the value of a tail; in a level the values, and the places to which entries lead.
abbrev pub HasWords : Node → Type 0
HasWords gone = Unit {0}
HasWords (tail held value) = IsWord value
HasWords (level map) = (piece value : ℕ) → get map piece ≡ Some value → IsWord value
