-- The search for a word that is no key, to either side: the way of a key, and a child in which there is one.
use Rattle.std.proofs.Common.{◌≡◌, ℕ, ◌+◌, ◌-◌, ◌*◌, ◌<◌, ◌≤◌, ◌^◌, length, get_or, Option, None, Some, sym, refl, ap, ◌∙◌, subst, arith, false}
use Rattle.judy_model.specs.WordBytes.{number_of}
use Rattle.judy_bits.specs.ByteSets.{has}
use Rattle.judy_leaf.specs.KeyLists.{keys_of, shift}
use Rattle.judy_node.specs.Trees.{Pairs, Tree, IsMap, IsChild, branch_pairs}
use Rattle.judy_node.specs.Views.{IsView, view_pairs}
use Rattle.judy_node.specs.Steps.{IsStep}
use Rattle.judy_node.specs.declared.step.Step.TheVariants.{Child}
use Rattle.judy_node.specs.declared.view.ViewOf.{ViewOf}
use Rattle.judy_node.specs.declared.view.ViewOf.TheVariants.{Branch}
use Rattle.judy_query.specs.declared.rooms.Room.{Room}
use Rattle.judy_query.specs.declared.rooms.Room.TheVariants.{Nowhere, At, In}
use Rattle.judy_query.specs.declared.sides.Side.{Side}
use Rattle.judy_query.specs.declared.sides.Side.TheVariants.{Up, Down}
use Rattle.judy_query.specs.Maps.{map_of}
use Rattle.judy_query.specs.Parts.{IsDown, IsShown, width_of}
use Rattle.judy_query.specs.Rooms.{IsRun, IsWindow, HasRoom, IsFirstAbsent, IsLastAbsent, IsRoomFrom, IsRoomUpTo, OrElse, IsRoomOrElse, room_of, low_of, high_of, end_of, IsAbsent}
use Rattle.judy_query.specs.Rooms.{IsRoom, IsRoomPast, nearest_empty}
use Rattle.judy_query.proofs.Downs.{down_branch, view_width, is_shown}
use Rattle.judy_query.proofs.Runs.{run-none, run-later, run-join, run-window, full-run, first-empty, last-empty}
use Rattle.judy_query.proofs.RoomSteps.{or_else, room-window, room-behind, room-nearer, word-in, room-window-down, room-before, room-nearer-down, word-in-last, run-back}
use Rattle.judy_query.proofs.RoomSteps.{down_window, down_word, down_last, down_run_last, down_run, full_behind, full_before}

-- ---- words

pub end_within : (side : Side) (unit : ℕ) → 0 < unit → end_of side unit < unit
end_within Up unit some = some
end_within Down unit some = omega arith

pub high_within : (side : Side) (key top : ℕ) → key < top → high_of side key top ≤ top
high_within Up key top below = omega arith
high_within Down key top below = omega arith

-- From the word that is met first on, all words are asked for.
pub from_end : (side : Side) (pairs : Pairs) (key unit : ℕ) (answer : Option ℕ) → 0 < unit → key ≡ end_of side unit → IsAbsent side pairs (low_of side key) (high_of side key unit) answer →
    IsAbsent side pairs 0 unit answer
from_end Up pairs key unit answer some is told = subst (λ n. IsFirstAbsent pairs n unit answer) is told
from_end Down pairs key unit answer some is told = subst (λ n. IsLastAbsent pairs 0 n answer) (let e : key + 1 ≡ unit = omega arith in e) told

pub absent_below : (side : Side) (pairs : Pairs) (from top word : ℕ) → IsAbsent side pairs from top (Some word) → word < top
absent_below Up pairs from top word told = told.0
absent_below Down pairs from top word told = let high = told.1.rising in omega arith

-- It is the nearest empty word of the map.
pub nearest-empty : (side : Side) (words : ℕ) (pairs : Pairs) (key : ℕ) (answer : Option ℕ) → IsMap words 0 (256 ^ 8) pairs → key < 2 ^ 64 →
    IsAbsent side pairs (low_of side key) (high_of side key (2 ^ 64)) answer
    → answer ≡ nearest_empty side (map_of pairs) key
nearest-empty Up words pairs key answer map small told = first-empty words pairs key answer map told
nearest-empty Down words pairs key answer map small told = last-empty words pairs key answer map small told

-- ---- rooms

module _ {V : _} (words : ℕ) (all : Pairs) (from top : ℕ) (room : Room V) where
  pub absent_nowhere : (side : Side) → room ≡ Nowhere → IsRoom side words all from top room → IsAbsent side all from top None
  absent_nowhere Up is told = subst (IsRoomFrom words all from top) is told
  absent_nowhere Down is told = subst (IsRoomUpTo words all from top) is told

  pub absent_at : (side : Side) (word : ℕ) → room ≡ At word → IsRoom side words all from top room → IsAbsent side all from top (Some word)
  absent_at Up word is told = subst (IsRoomFrom words all from top) is told
  absent_at Down word is told = subst (IsRoomUpTo words all from top) is told

  pub in_room : (side : Side) (child : _) (width start : ℕ) → room ≡ In child width start → IsRoom side words all from top room → HasRoom words all child.now width start
  in_room Up child width start is told = (subst (IsRoomFrom words all from top) is told).2
  in_room Down child width start is told = (subst (IsRoomUpTo words all from top) is told).2

  pub absent_in : (side : Side) (child : _) (width start word : ℕ) → room ≡ In child width start → IsRoom side words all from top room →
      IsAbsent side child.now.pairs 0 (256 ^ width) (Some word) → IsAbsent side all from top (Some (start + word))
  absent_in Up child width start word is told found = let heard = subst (IsRoomFrom words all from top) is told in word-in words all from top child.now width start word heard.0 heard.1 heard.2 found
  absent_in Down child width start word is told found =
      let heard = subst (IsRoomUpTo words all from top) is told in word-in-last words all from top child.now width start word heard.0 heard.1 heard.2 found

-- What was told of a word, told of a room.
pub room_told : (V : _) (side : Side) (words : ℕ) (all : Pairs) (from top : ℕ) (answer : Option ℕ) → IsAbsent side all from top answer → IsRoom {V = V} side words all from top (room_of answer)
room_told V Up words all from top None told = told
room_told V Up words all from top (Some word) told = told
room_told V Down words all from top None told = told
room_told V Down words all from top (Some word) told = told

-- ---- the way of a key

-- Past all words there is none.
pub past_all : (V : _) (side : Side) (words : ℕ) (all : Pairs) (top start unit : ℕ) → start ≡ 0 → unit ≡ top → IsRoomPast {V = V} side words all 0 top start unit Nowhere
past_all V Up words all top start unit none whole = run-none all (start + unit) top (omega arith)
past_all V Down words all top start unit none whole = run-none all 0 start (sym none)

-- The key itself, which is no key of the tree.
pub key_absent : (side : Side) (all : Pairs) (key top : ℕ) → key < top → has (keys_of all) key ≡ false → IsAbsent side all (low_of side key) (high_of side key top) (Some key)
key_absent Up all key top small absent = (small, run-none all key key refl, absent)
key_absent Down all key top small absent = (omega arith, run-none all (key + 1) (key + 1) refl, absent)

pub at_key : (V : _) (side : Side) (words : ℕ) (all : Pairs) (key top : ℕ) → key < top → has (keys_of all) key ≡ false → IsRoom {V = V} side words all (low_of side key) (high_of side key top) (At key)
at_key V side words all key top small absent = room_told V side words all (low_of side key) (high_of side key top) (Some key) (key_absent side all key top small absent)

module _ {V : _} (words : ℕ) (tree : Pairs) (view : ViewOf V) (key left : ℕ) (down : IsDown words tree view key left) where
  -- What a node without children tells.
  down_at : (side : Side) (word : ℕ) → IsAbsent side (view_pairs view) (low_of side left) (high_of side left (256 ^ width_of view)) (Some word) →
      IsAbsent side tree (low_of side key) (high_of side key (2 ^ 64)) (Some (key - left + word))
  down_at Up word told = down_word words tree view key left down word told
  down_at Down word told = down_last words tree view key left down word told

  -- As it was searched, with its width.
  pub down_told : (side : Side) (word : ℕ) {wide : ℕ} {found : Option ℕ} → wide ≡ width_of view → found ≡ Some word →
      IsAbsent side (view_pairs view) (low_of side left) (high_of side left (256 ^ wide)) found → IsAbsent side tree (low_of side key) (high_of side key (2 ^ 64)) (Some (key - left + word))
  down_told side word {wide} {found} same is told =
      down_at side word (subst (IsAbsent side (view_pairs view) (low_of side left) (high_of side left (256 ^ width_of view))) is
      (subst (λ w. IsAbsent side (view_pairs view) (low_of side left) (high_of side left (256 ^ w)) found) same told))

  pub down_past : (side : Side) (room : Room V) → IsAbsent side (view_pairs view) (low_of side left) (high_of side left (256 ^ width_of view)) None
      → IsRoomPast side words tree 0 (2 ^ 64) (key - left) (256 ^ width_of view) room → IsRoom side words tree (low_of side key) (high_of side key (2 ^ 64)) room
  down_past Up room told past = room-behind words tree key (key - left + 256 ^ width_of view) (2 ^ 64) room (down_run words tree view key left down (256 ^ width_of view) (omega arith) told) past
  down_past Down room told past = room-before words tree 0 (key - left) (key + 1) room (down_run_last words tree view key left down told) past

module _ {V : _} (words : ℕ) (tree : Pairs) (b : _) (key left : ℕ) (down : IsDown {V = V} words tree (Branch b) key left)
    (byte place rest : ℕ) (steps : IsStep (256 ^ b.now.width) (number_of b.now.skip * 256) b.now.bytes left (Child byte place rest)) where
  -- The nearest room past the child.
  child_past : (side : Side) (room result : Room V)
      → IsRoomPast side words (shift (key - left) (branch_pairs b.now.width b.now.skip b.now.bytes b.now.children.items)) (key - left)
      (key - left + 256 ^ (length b.now.skip + 1 + b.now.width)) (key - left + (number_of b.now.skip * 256 + byte) * 256 ^ b.now.width) (256 ^ b.now.width) room
      → OrElse room (λ (other : Room V). IsRoomPast side words tree 0 (2 ^ 64) (key - left) (256 ^ (length b.now.skip + 1 + b.now.width)) other) result →
      IsRoomPast side words tree 0 (2 ^ 64) (key - rest) (256 ^ b.now.width) result
  child_past Up room result told past =
      let unit = 256 ^ b.now.width in
      let top = 256 ^ (length b.now.skip + 1 + b.now.width) in
      let is_key = steps.0.key_is in
      let above = down.above in
      let fits = down.part.fits in
      let start : key - left + (number_of b.now.skip * 256 + byte) * unit ≡ key - rest = omega arith in
      room-nearer words tree (key - rest + unit) (key - left + top) (2 ^ 64) room result (omega arith)
      (subst (λ n. IsRoomFrom words tree (n + unit) (key - left + top) room) start
      (room-window words tree (branch_pairs b.now.width b.now.skip b.now.bytes b.now.children.items) (key - left) top (key - left + (number_of b.now.skip * 256 + byte) * unit + unit) room
      (omega arith)
      (down_window words tree (Branch b) key left down) told))
      past
  child_past Down room result told past =
      let unit = 256 ^ b.now.width in
      let top = 256 ^ (length b.now.skip + 1 + b.now.width) in
      let is_key = steps.0.key_is in
      let above = down.above in
      let inside = down.inside in
      let start : key - left + (number_of b.now.skip * 256 + byte) * unit ≡ key - rest = omega arith in
      room-nearer-down words tree 0 (key - left) (key - rest) room result (omega arith)
      (subst (λ n. IsRoomUpTo words tree (key - left) n room) start
      (room-window-down words tree (branch_pairs b.now.width b.now.skip b.now.bytes b.now.children.items) (key - left) top (key - left + (number_of b.now.skip * 256 + byte) * unit) room (omega arith)
      (down_window words tree (Branch b) key left down) told))
      past

  -- Of a full child all words are keys.
  pub full_past : (side : Side) (kid : Tree) (room : Room V) → kid ≡ get_or b.now.children.items place kid → length kid.pairs ≡ 256 ^ b.now.width
      → IsRoomPast side words tree 0 (2 ^ 64) (key - rest) (256 ^ b.now.width) room → IsRoom side words tree (low_of side key) (high_of side key (2 ^ 64)) room
  full_past Up kid room is full past = room-behind words tree key (key - rest + 256 ^ b.now.width) (2 ^ 64) room (full_behind words tree b key left down byte place rest steps kid is full) past
  full_past Down kid room is full past = room-before words tree 0 (key - rest) (key + 1) room (full_before words tree b key left down byte place rest steps kid is full) past

-- The nearest room once a way has gone from a branch to a child: past that child, or else one that is past the branch.
pub room_passed : {V : _} {words : ℕ} {tree : Pairs} {view : ViewOf V} {b : _} {key left : ℕ} (down : IsDown words tree view key left) (is : view ≡ Branch b)
    (byte place rest : ℕ) (steps : IsStep (256 ^ b.now.width) (number_of b.now.skip * 256) b.now.bytes left (Child byte place rest)) (edge : ℕ) (same : edge ≡ byte)
    (side : Side) (Holds : Room V → Type 0) (result : Room V)
    → IsRoomOrElse side words (record { branch = b; place = place; base = key - left; edge = edge }) Holds result
    → ((other : Room V) → Holds other → IsRoomPast side words tree 0 (2 ^ 64) (key - left) (256 ^ width_of view) other) → IsRoomPast side words tree 0 (2 ^ 64) (key - rest) (256 ^ b.now.width) result
room_passed {V} {words = words} {tree = tree} {b = b} {key = key} {left = left} down is byte place rest steps edge same side Holds result told past =
    let unit = 256 ^ b.now.width in
    let top = length b.now.skip + 1 + b.now.width in
    child_past words tree b key left (down_branch down is) byte place rest steps side told.0 result
    (subst (λ n. IsRoomPast side words (shift (key - left) (branch_pairs b.now.width b.now.skip b.now.bytes b.now.children.items)) (key - left) (key - left + 256 ^ top)
    (key - left + (number_of b.now.skip * 256 + n) * unit) unit told.0) same told.1)
    (or_else Holds (λ (other : Room V). IsRoomPast side words tree 0 (2 ^ 64) (key - left) (256 ^ top) other) told.0 result
    (λ other holds. subst (λ v. IsRoomPast side words tree 0 (2 ^ 64) (key - left) (256 ^ width_of v) other) is (past other holds)) told.2)

-- ---- in a child with room

-- All words that are met before a block of so many are keys.
abbrev pub IsRunPast : Side → Pairs → ℕ → ℕ → ℕ → Type 0
IsRunPast Up all top start unit = IsRun all 0 start
IsRunPast Down all top start unit = IsRun all (start + unit) top

-- The search has come to a node whose words begin at a start, and which isn't full.
pub record IsNarrowed {V : _} (side : Side) (words : ℕ) (all : Pairs) (top : ℕ) (view : ViewOf V) (start : ℕ) : Type 0 where
  pub shown : IsShown words view
  pub window : IsWindow all start (256 ^ width_of view) (view_pairs view)
  pub run : IsRunPast side all top start (256 ^ width_of view)
  pub fits : start + 256 ^ width_of view ≤ top
  pub room : length (view_pairs view) < 256 ^ width_of view

module _ {V : _} (side : Side) (words : ℕ) (all : Pairs) (top : ℕ) (kid : Tree) (width start : ℕ) (view : ViewOf V) (room : HasRoom words all kid width start) (is : IsView words width kid view) where
  pub kid_width : width_of view ≡ width
  kid_width = view_width words width kid view (λ (none : length kid.pairs ≡ 0). let some = room.child.some in let never : ⊥ = omega arith in absurd never) is

  pub narrowed_kid : IsRunPast side all top start (256 ^ width) → start + 256 ^ width ≤ top → IsNarrowed side words all top view start
  narrowed_kid run fits = record {
    shown = is_shown words width kid view room.child.low_width room.child.high_width kid_width is;
    window = subst (λ w. IsWindow all start (256 ^ w) (view_pairs view)) (sym kid_width) (subst (IsWindow all start (256 ^ width)) is.pairs room.window);
    run = subst (λ w. IsRunPast side all top start (256 ^ w)) (sym kid_width) run;
    fits = subst (λ w. start + 256 ^ w ≤ top) (sym kid_width) fits;
    room = subst (λ w. length (view_pairs view) < 256 ^ w) (sym kid_width) (subst (λ ps. length ps < 256 ^ width) is.pairs room.room);
  }

-- It begins with the child.
pub whole_room : (words width : ℕ) (kid : Tree) → IsChild words width kid → width ≤ 7 → length kid.pairs < 256 ^ width → HasRoom words kid.pairs kid width 0
whole_room words width kid child narrow room = record {
  child = child;
  narrow = narrow;
  window = record { same = λ word within. ap (has (keys_of kid.pairs)) (let e : 0 + word ≡ word = omega arith in e) };
  room = room;
}

pub whole_run : (side : Side) (all : Pairs) (top : ℕ) → IsRunPast side all top 0 top
whole_run Up all top = run-none all 0 0 refl
whole_run Down all top = run-none all (0 + top) top (omega arith)

-- At a branch: what the room tells that is met first of all its words.
module _ {V : _} (words : ℕ) (all : Pairs) (top : ℕ) (view : ViewOf V) (start : ℕ) (b : _) (is : view ≡ Branch b) (room : Room V) where
  at_branch : (side : Side) → IsNarrowed side words all top view start → IsNarrowed {V = V} side words all top (Branch b) start
  at_branch side narrowed = subst (λ v. IsNarrowed side words all top v start) is narrowed

  -- Upwards it is the first from 0 on, and downwards the last below the top.
  room_up : IsNarrowed {V = V} Up words all top (Branch b) start → IsRoomFrom words (shift start (view_pairs {V = V} (Branch b))) start (start + 256 ^ width_of {V = V} (Branch b)) room →
      IsRoomFrom words all 0 (start + 256 ^ width_of {V = V} (Branch b)) room
  room_up here told =
      let unit = 256 ^ width_of {V = V} (Branch b) in
      room-behind words all 0 start (start + unit) room here.run (room-window words all (view_pairs {V = V} (Branch b)) start unit start room (omega arith) here.window told)

  room_down : IsNarrowed {V = V} Down words all top (Branch b) start → IsRoomUpTo words (shift start (view_pairs {V = V} (Branch b))) start (start + 256 ^ width_of {V = V} (Branch b)) room →
      IsRoomUpTo words all start top room
  room_down here told =
      let unit = 256 ^ width_of {V = V} (Branch b) in
      room-before words all start (start + unit) top room here.run (room-window-down words all (view_pairs {V = V} (Branch b)) start unit (start + unit) room (omega arith) here.window told)

  pub branch_at : (side : Side) (word : ℕ) → room ≡ At word → IsNarrowed side words all top view start
      → IsRoom side words (shift start (view_pairs {V = V} (Branch b))) start (start + 256 ^ width_of {V = V} (Branch b)) room → IsAbsent side all 0 top (Some word)
  branch_at Up word at narrowed told =
      let here = at_branch Up narrowed in
      let heard = subst (IsRoomFrom words all 0 (start + 256 ^ width_of {V = V} (Branch b))) at (room_up here told) in
      (omega (arith, heard.0, here.fits), heard.1, heard.2)
  branch_at Down word at narrowed told =
      let heard = subst (IsRoomUpTo words all start top) at (room_down (at_branch Down narrowed) told) in
      (omega arith, heard.1, heard.2)

  pub branch_in : (side : Side) (child : _) (width from : ℕ) → room ≡ In child width from → IsNarrowed side words all top view start
      → IsRoom side words (shift start (view_pairs {V = V} (Branch b))) start (start + 256 ^ width_of {V = V} (Branch b)) room
      → HasRoom words all child.now width from × IsRunPast side all top from (256 ^ width) × (from + 256 ^ width ≤ top)
  branch_in Up child width from in_child narrowed told =
      let here = at_branch Up narrowed in
      let heard = subst (IsRoomFrom words all 0 (start + 256 ^ width_of {V = V} (Branch b))) in_child (room_up here told) in
      (heard.2, heard.1, omega (arith, heard.0, here.fits))
  branch_in Down child width from in_child narrowed told =
      let heard = subst (IsRoomUpTo words all start top) in_child (room_down (at_branch Down narrowed) told) in
      (heard.2, heard.1, heard.1.rising)

  -- There is one, as the branch isn't full.
  pub branch_nowhere : (side : Side) → room ≡ Nowhere → IsNarrowed side words all top view start
      → IsRoom side words (shift start (view_pairs {V = V} (Branch b))) start (start + 256 ^ width_of {V = V} (Branch b)) room → ⊥
  branch_nowhere Up nowhere narrowed told =
      let here = at_branch Up narrowed in
      let unit = 256 ^ width_of {V = V} (Branch b) in
      let heard = subst (IsRoomFrom words all 0 (start + unit)) nowhere (room_up here told) in
      let full = full-run words 0 unit (view_pairs {V = V} (Branch b)) here.shown.map (run-back all (view_pairs {V = V} (Branch b)) start unit here.window
      (run-later all 0 start (start + unit) (omega arith) (omega arith) heard)) in
      omega (arith, here.room)
  branch_nowhere Down nowhere narrowed told =
      let here = at_branch Down narrowed in
      let fits = here.fits in
      let unit = 256 ^ width_of {V = V} (Branch b) in
      let heard = subst (IsRoomUpTo words all start top) nowhere (room_down here told) in
      let full = full-run words 0 unit (view_pairs {V = V} (Branch b)) here.shown.map (run-back all (view_pairs {V = V} (Branch b)) start unit here.window
      (record { rising = omega arith; held = λ word low high. heard.held word low (omega arith) })) in
      omega (arith, here.room)

module _ (words : ℕ) (all pairs : Pairs) (top start unit : ℕ) (window : IsWindow all start unit pairs) (fits : start + unit ≤ top) where
  -- What a node without children tells.
  pub narrowed_at : (side : Side) (word : ℕ) → IsRunPast side all top start unit → IsAbsent side pairs 0 unit (Some word) → IsAbsent side all 0 top (Some (start + word))
  narrowed_at Up word run told =
      let small = told.0 in (
        omega arith,
        run-join all 0 start (start + word) run (run-window all pairs start unit 0 word start (start + word) (omega arith) refl (omega arith) window told.1),
        window.same word small ∙ told.2,
      )
  narrowed_at Down word run told =
      let high = told.1.rising in (
        omega arith,
        run-join all (start + word + 1) (start + unit) top (run-window all pairs start unit (word + 1) unit (start + word + 1) (start + unit) (omega arith) refl (omega arith) window told.1) run,
        window.same word (omega arith) ∙ told.2,
      )

pub some_absent : (side : Side) (words : ℕ) (pairs : Pairs) (unit : ℕ) → IsMap words 0 unit pairs → length pairs < unit → IsAbsent side pairs 0 unit None → ⊥
some_absent Up words pairs unit map room run = let full = full-run words 0 unit pairs map run in omega arith
some_absent Down words pairs unit map room run = let full = full-run words 0 unit pairs map run in omega arith
