-- What stands at a place, and what it becomes.
use Rattle.std.specs.Prelude.{◌≡◌, ℕ, ◌%◌, ◌==◌, Bool, List, Option, Some, None}
use Rattle.std.specs.FinMap.{get}
use Rattle.judy_model.specs.Keys.{word_order}
use Rattle.judy_model.specs.Arrays.{ArrayOf}
use Rattle.judy_word.specs.Writes.{with_value}
use Rattle.judy_sl.specs.LevelLists.{LevelParts}
use Rattle.judy_sl.specs.declared.child.ChildRef.{ChildRef}
use Rattle.judy_sl.specs.declared.child.ChildRef.TheVariants as seen

-- Nothing; a tail, the rest of one key with the key's value; or a level, with the number of keys behind it.
pub data Child : Type 0 where
  Free : Child
  Tail : List ℕ × ℕ → Child
  Level : ℕ → ArrayOf word_order → Child

-- Whether a place is one for levels.
abbrev pub is_level : ℕ → Bool
is_level place = place % 256 == 255

-- What the list of levels has.
abbrev pub level_child : Option LevelParts → Child
level_child None = Free
level_child (Some parts) = Level parts.keys parts.words

-- What the lists of tails have.
abbrev pub tail_child : Option (List ℕ × ℕ) → Child
tail_child None = Free
tail_child (Some rest) = Tail rest

-- The number that a level tells.
abbrev pub keys_told : Child → ℕ
keys_told Free = 0
keys_told (Tail rest) = 0
keys_told (Level keys words) = keys

-- What is read is what stands there; of a level its entries are.
abbrev pub IsRefTo : Child → ChildRef → Type 0
IsRefTo child (seen.Tail tail) = child ≡ Tail tail
IsRefTo child (seen.Level words) = child ≡ Level (keys_told child) words.now

-- The child with a value written at a piece of a level, or as the value of a tail.
abbrev pub child_with : Child → ℕ → ℕ → Child
child_with Free piece value = Free
child_with (Tail rest) piece value = Tail ((rest.0, value))
child_with (Level keys words) piece value = Level keys (with_value words piece value)

-- The value that is there.
abbrev pub value_at : Child → ℕ → Option ℕ
value_at Free piece = None
value_at (Tail rest) piece = Some rest.1
value_at (Level keys words) piece = get words.map piece

-- Something stands there.
abbrev pub IsTaken : Child → Type 0
IsTaken Free = ⊥
IsTaken (Tail rest) = Unit {0}
IsTaken (Level keys words) = Unit {0}

-- A level stands there.
abbrev pub IsLevelChild : Child → Type 0
IsLevelChild Free = ⊥
IsLevelChild (Tail rest) = ⊥
IsLevelChild (Level keys words) = Unit {0}

-- The entries of the level that stood there, where one did.
abbrev pub level_of : Child → Option (ArrayOf word_order)
level_of Free = None
level_of (Tail rest) = None
level_of (Level keys words) = Some words
