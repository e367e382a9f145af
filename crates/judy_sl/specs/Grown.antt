-- What an arena becomes where it takes something new.
use Rattle.std.specs.Prelude.{◌≡◌, ◌≢◌, ◌≤◌, ℕ, suc, List, Option, None, Some, Result, Ok, Err, length, IsTrue}
use Rattle.judy_sl.specs.Children.{Child, Tail}
use Rattle.judy_sl.specs.declared.arena.Arena.{Arena}
use Rattle.judy_sl.specs.declared.arena.Place.{Place}
use Rattle.judy_sl.specs.Pieces.{pieces, IsText, ArePieces}
use Rattle.judy_sl.specs.World.{World, gone, lookup}
use Rattle.judy_sl.specs.WorldInvariants.{AllLed}
use Rattle.judy_sl.specs.Arenas.{world_of, node_of, child_at, IsArena}
use Rattle.std.specs.FinMap.{FinMap, contains_key}
use Rattle.judy_model.specs.Keys.{word_order}
use Rattle.judy_model.specs.Arrays.{ArrayOf}
use Rattle.judy_word.specs.Writes.{with_value}
use Rattle.judy_sl.specs.declared.branches.Twig.{Twig}
use Rattle.judy_sl.specs.declared.branches.Branch.{Branch}
use Rattle.judy_sl.specs.Branches.{IsBuilt, AreSingle}
use Rattle.judy_sl.specs.Ways.{IsOnWay, IsFound, IsClash, left_of, levels_passed}
use Rattle.judy_sl.specs.Counted.{AreCounted, AreCountedBut}
use Rattle.judy_sl.specs.Listed.{StaysLed}
use Rattle.judy_model.specs.declared.keys.TheConstants.{LONGEST_STRING}
use Rattle.judy_sl.specs.Strings.{IsString}

-- Another thing is found under one key, and nothing else changes.
pub record IsChange (world other : World) (key : List ℕ) (new : Option ℕ) : Type 0 where
  pub at_key : lookup other 0 key ≡ new
  pub elsewhere : (ps : List ℕ) → ArePieces ps → ps ≢ key → lookup other 0 ps ≡ lookup world 0 ps

-- A child was put at a place where nothing was.
pub record IsPut (before after : Arena) (child : Child) (at : ℕ) : Type 0 where
  pub was_free : node_of (child_at before at) ≡ gone
  pub here : child_at after at ≡ child
  pub elsewhere : (k : ℕ) → k ≢ at → child_at after k ≡ child_at before k
  pub root : after.root ≡ before.root

-- What holds where a trial of a key as a new one showed that it was absent: where it put it in, and where memory was refused.
abbrev pub IfShown : {E : Type 0} → Result (Option Place) E → Type 0 → Type 0
IfShown (Ok (Some place)) Holds = Holds
IfShown (Ok None) Holds = Unit {0}
IfShown (Err error) Holds = Holds

-- A key was added with the value 0, which stands at the place.
pub record IsAdded (before after : Arena) (key : List ℕ) (place : Place) : Type 0 where
  pub is_arena : IsArena after
  pub led : AllLed (world_of before) → AllLed (world_of after)
  pub change : IsChange (world_of before) (world_of after) (pieces key) (Some 0)
  pub found : IsFound (world_of after) key place

-- Nothing that the arena holds has changed.
pub record IsSame (before after : Arena) : Type 0 where
  pub root : after.root ≡ before.root
  pub children : (at : ℕ) → child_at after at ≡ child_at before at

-- A level's entry leads to a new tail at a place, where one is to be.
abbrev pub IsHung : Arena → Arena → ArrayOf word_order → ArrayOf word_order → Option Twig → Option ℕ → Type 0
IsHung before after words linked None None = (after ≡ before) × (linked ≡ words)
IsHung before after words linked None (Some at) = ⊥
IsHung before after words linked (Some twig) None = ⊥
IsHung before after words linked (Some twig) (Some at) = IsPut before after (Tail ((twig.rest.now, twig.value))) at × (linked ≡ with_value words twig.piece at)

-- The bytes of a twig are those of a tail.
abbrev pub IsTwigText : Option Twig → Type 0
IsTwigText None = Unit {0}
IsTwigText (Some twig) = IsText twig.rest.now × (length twig.rest.now ≤ LONGEST_STRING)

-- The level has the entry that is to lead there.
abbrev pub HasTwig : ArrayOf word_order → Option Twig → Type 0
HasTwig level None = Unit {0}
HasTwig level (Some twig) = IsTrue (contains_key level.map twig.piece)

-- A branch of some key: in its levels each entry is there, and its twigs are tails to be.
pub record IsSound (branch : Branch) : Type 0 where
  pub singles : AreSingle branch.upper.items
  pub old : HasTwig branch.fork branch.old
  pub old_text : IsTwigText branch.old
  pub new : HasTwig branch.fork branch.new
  pub new_text : IsTwigText branch.new

-- The twigs of a branch are hung up.
pub record AreHung (before after : Arena) (branch hung : Branch) : Type 0 where
  pub middle : Arena
  pub words : ArrayOf word_order
  pub old_at : Option ℕ
  pub new_at : Option ℕ
  pub old : IsHung before middle branch.fork words branch.old old_at
  pub new : IsHung middle after words hung.fork branch.new new_at
  pub upper : hung.upper.items ≡ branch.upper.items

-- A branch is to stand where the key's way comes to another's tail.
pub record IsGraft (arena : Arena) (key : List ℕ) (from : Place) (at left : ℕ) (branch : Branch) : Type 0 where
  pub is_arena : IsArena arena
  pub led : AllLed (world_of arena)
  pub counted : AreCounted arena
  pub is_key : IsString key
  pub clash : IsClash (world_of arena) key from at left
  pub bytes : List ℕ
  pub held_is : clash.held ≡ pieces bytes
  pub built : IsBuilt bytes clash.value (left_of key left) branch

-- A key was added with the value 0, which the levels that its way passed don't count yet. Of it so many bytes are left at the level at a place.
pub record IsGrafted (before after : Arena) (key : List ℕ) (left top : ℕ) : Type 0 where
  pub is_arena : IsArena after
  pub led : AllLed (world_of after)
  pub counted : AreCountedBut after (levels_passed (world_of before) key)
  pub stays : StaysLed before after
  pub change : IsChange (world_of before) (world_of after) (pieces key) (Some 0)
  pub within : left ≤ length key
  pub map : FinMap word_order ℕ
  pub on : IsOnWay (world_of after) key (suc top) map (left_of key left)
