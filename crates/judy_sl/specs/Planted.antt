-- Arrays of which the first level is a list of entries yet, and the keys that come into one.
use Rattle.std.specs.Prelude.{◌≡◌, ℕ, ◌<◌, Bool, ◌&&◌, T, nat_le, nat_lt, if◌then◌else◌, List, [], ◌∷◌, length}
use Rattle.std.specs.List.{AllByRecursion}
use Rattle.std.specs.FinMap.{empty, from_sorted, is_sorted, len}
use Rattle.judy_model.specs.Keys.{word_order}
use Rattle.judy_sl.specs.declared.arena.Arena.{Arena}
use Rattle.judy_sl.specs.Pieces.{piece_of}
use Rattle.judy_sl.specs.WorldInvariants.{AllLed}
use Rattle.judy_sl.specs.Arenas.{world_of, map_of, IsArena}
use Rattle.judy_sl.specs.Counted.{AreCounted}
use Rattle.judy_sl.specs.Firsts.{AreFirsts}

-- A string has eight bytes or more, and its first piece is above a word.
abbrev pub opens : ℕ → List ℕ → Bool
opens low key = nat_le 8 (length key) && nat_lt low (piece_of key)

-- The pairs whose strings do so, each above the first piece of the one before it.
abbrev pub openers : ℕ → List (List ℕ × ℕ) → List (List ℕ × ℕ)
openers low [] = []
openers low (pair ∷ pairs) = if opens low pair.0 then pair ∷ openers (piece_of pair.0) pairs else openers low pairs

-- The other pairs.
abbrev pub followers : ℕ → List (List ℕ × ℕ) → List (List ℕ × ℕ)
followers low [] = []
followers low (pair ∷ pairs) = if opens low pair.0 then followers (piece_of pair.0) pairs else pair ∷ followers low pairs

-- The arena with a first level of these entries.
abbrev pub planted : Arena → List (ℕ × ℕ) → Arena
planted arena entries = record arena { root = record { limit = 18446744073709551615; map = from_sorted entries } }

-- The words of entries are less than one.
abbrev pub AreBelow : ℕ → List (ℕ × ℕ) → Type 0
AreBelow word entries = AllByRecursion (λ entry. entry.0 < word) entries

-- With its first level made of the entries the arena is one, with a key for each of them.
pub record IsPlanted (arena : Arena) (entries : List (ℕ × ℕ)) : Type 0 where
  pub sorted : T (is_sorted word_order entries)
  pub is_arena : IsArena (planted arena entries)
  pub led : AllLed (world_of (planted arena entries))
  pub counted : AreCounted (planted arena entries)
  pub firsts : AreFirsts (map_of (planted arena entries)) empty
  pub number : len (map_of (planted arena entries)) ≡ length entries
