-- How many keys stand behind each seat, and what levels tell of that.
use Rattle.std.specs.Prelude.{◌≡◌, ◌≢◌, ℕ, suc, ◌⊎◌, Bool, true, false, List, [], ◌∷◌, length}
use Rattle.std.specs.List.{flat_map}
use Rattle.std.specs.FinMap.{FinMap, len}
use Rattle.judy_model.specs.Keys.{word_order, byte_order}
use Rattle.judy_model.specs.Counts.{rank, count_up_to}
use Rattle.judy_sl.specs.Children.{Child, Free, Tail, Level, IsLevelChild}
use Rattle.judy_sl.specs.declared.arena.Arena.{Arena}
use Rattle.judy_sl.specs.Pieces.{IsInner}
use Rattle.judy_sl.specs.World.{World, gone, level}
use Rattle.judy_sl.specs.Behind.{map_behind, entry_keys}
use Rattle.judy_sl.specs.Arenas.{world_of, child_at, IsArena}
use Rattle.judy_sl.specs.Stepped.{child_stepped, ChildCanStep}

-- How many keys stand behind a seat.
abbrev pub keys_behind : World → ℕ → ℕ
keys_behind world seat = len (map_behind world seat)

-- How many keys stand behind some entries of a level.
abbrev pub keys_behind_all : World → List (ℕ × ℕ) → ℕ
keys_behind_all world entries = length (flat_map (entry_keys world) entries)

-- How many keys are less than a key, or, where that itself counts, not above it.
abbrev pub ranked : Bool → FinMap byte_order ℕ → List ℕ → ℕ
ranked false all key = rank all key
ranked true all key = count_up_to all key

-- What an entry of a level leads to is there.
abbrev pub LeadsOn : World → ℕ × ℕ → Type 0
LeadsOn world entry = IsInner entry.0 → world (suc entry.1) ≢ gone

-- The number that a level tells is to another as a relation says; nothing is asked of what is no level.
abbrev pub LevelTells : (ℕ → ℕ → Type 0) → Child → ℕ → Type 0
LevelTells is_to Free keys = Unit {0}
LevelTells is_to (Tail rest) keys = Unit {0}
LevelTells is_to (Level told words) keys = is_to told keys

-- Just as many; and one less.
abbrev pub Same : ℕ → ℕ → Type 0
Same told keys = told ≡ keys

abbrev pub OneLess : ℕ → ℕ → Type 0
OneLess told keys = suc told ≡ keys

-- Each level tells how many keys stand behind it.
abbrev pub AreCounted : Arena → Type 0
AreCounted arena = (at : ℕ) → LevelTells Same (child_at arena at) (keys_behind (world_of arena) (suc at))

-- A level stands at a seat, and so many keys behind it.
pub record StandsWith (world : World) (words : FinMap word_order ℕ) (keys : ℕ) : Type 0 where
  pub seat : ℕ
  pub is_level : world seat ≡ level words
  pub told : keys ≡ keys_behind world seat

-- ---- levels that are counted by their places

-- A place is one of some.
abbrev pub IsAmong : List ℕ → ℕ → Type 0
IsAmong [] at = ⊥
IsAmong (place ∷ places) at = (at ≡ place) ⊎ IsAmong places at

-- None of some places comes twice.
abbrev pub AreOnce : List ℕ → Type 0
AreOnce [] = Unit {0}
AreOnce (place ∷ places) = (IsAmong places place → ⊥) × AreOnce places

-- Each level tells how many keys stand behind it, but those at some places one less.
pub record AreCountedBut (arena : Arena) (places : List ℕ) : Type 0 where
  pub once : AreOnce places
  pub levels : (at : ℕ) → IsAmong places at → IsLevelChild (child_at arena at)
  pub passed : (at : ℕ) → IsAmong places at → LevelTells OneLess (child_at arena at) (keys_behind (world_of arena) (suc at))
  pub others : (at : ℕ) → (IsAmong places at → ⊥) → LevelTells Same (child_at arena at) (keys_behind (world_of arena) (suc at))

-- At each of some places stands a level whose number can be stepped.
abbrev pub CanStepAt : Bool → Arena → List ℕ → Type 0
CanStepAt comes arena places = (at : ℕ) → IsAmong places at → IsLevelChild (child_at arena at) × ChildCanStep comes (child_at arena at)

-- The numbers of the levels at some places are stepped, and all else stays.
pub record AreStepped (comes : Bool) (before after : Arena) (places : List ℕ) : Type 0 where
  pub is_arena : IsArena after
  pub world : world_of after ≡ world_of before
  pub passed : (at : ℕ) → IsAmong places at → child_at after at ≡ child_stepped comes (child_at before at)
  pub others : (at : ℕ) → (IsAmong places at → ⊥) → child_at after at ≡ child_at before at
