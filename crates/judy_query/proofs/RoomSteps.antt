-- Rooms along the way down a tree.
use Rattle.std.proofs.Common.{◌≡◌, ◌≢◌, ℕ, ◌+◌, ◌-◌, ◌*◌, ◌<◌, ◌≤◌, ◌^◌, length, get_or, slice_get, Some, sym, refl, ap, ◌∙◌, subst, arith, false}
use Rattle.std.proofs.lemmas.Option.{slice_get-get_or}
use Rattle.judy_model.specs.WordBytes.{number_of}
use Rattle.judy_bits.specs.ByteSets.{has}
use Rattle.judy_leaf.specs.KeyLists.{keys_of, shift}
use Rattle.judy_node.specs.Trees.{Pairs, Tree, IsChild, branch_pairs}
use Rattle.judy_node.specs.Views.{view_pairs}
use Rattle.judy_node.specs.Steps.{IsStep}
use Rattle.judy_node.specs.declared.step.Step.TheVariants.{Child}
use Rattle.judy_node.specs.declared.view.ViewOf.{ViewOf}
use Rattle.judy_node.specs.declared.view.ViewOf.TheVariants.{Branch}
use Rattle.judy_node.proofs.Maps.{map-length}
use Rattle.judy_query.specs.declared.rooms.Room.{Room}
use Rattle.judy_query.specs.declared.rooms.Room.TheVariants.{Nowhere, At, In}
use Rattle.judy_query.specs.Parts.{IsDown, width_of}
use Rattle.judy_query.specs.Rooms.{IsRun, IsWindow, HasRoom, IsFirstAbsent, IsLastAbsent, IsRoomFrom, IsRoomUpTo, OrElse}
use Rattle.judy_query.proofs.Downs.{child_inside}
use Rattle.judy_query.proofs.Runs.{run-full, run-later, window-part, window-window, window-shift, run-join, run-window}
use Rattle.judy_query.proofs.BranchRooms.{block_within, kid_window, kid_is}

-- ---- the same words of two lists

-- Two lists have the same keys among the words from one on and below another.
pub record HasSame (one other : Pairs) (from top : ℕ) : Type 0 where
  pub same : (word : ℕ) → from ≤ word → word < top → has (keys_of one) word ≡ has (keys_of other) word

same-window : (all pairs : Pairs) (base unit : ℕ) → IsWindow all base unit pairs → HasSame all (shift base pairs) base (base + unit)
same-window all pairs base unit window = record {
  same = λ word low high.
      let inner : word ≡ base + (word - base) = omega arith in
      ap (has (keys_of all)) inner ∙ window.same (word - base) (omega arith) ∙ sym ((window-shift pairs base unit).same (word - base) (omega arith)) ∙
      ap (has (keys_of (shift base pairs))) (sym inner);
}

run-same : (one other : Pairs) (low top from to : ℕ) → low ≤ from → to ≤ top → HasSame one other low top → IsRun other from to → IsRun one from to
run-same one other low top from to above below same run = record { rising = run.rising; held = λ word start end. same.same word (omega arith) (omega arith) ∙ run.held word start end }

room-same : (words : ℕ) (one other kid : Pairs) (low top start unit : ℕ) → low ≤ start → start + unit ≤ top → HasSame one other low top → IsWindow other start unit kid → IsWindow one start unit kid
room-same words one other kid low top start unit above below same window = record { same = λ word within. same.same (start + word) (omega arith) (omega arith) ∙ window.same word within }

-- What a branch's own words tell is told of the tree.
pub room-window : {V : _} (words : ℕ) (all pairs : Pairs) (base unit from : ℕ) (room : Room V) → base ≤ from → IsWindow all base unit pairs →
    IsRoomFrom words (shift base pairs) from (base + unit) room → IsRoomFrom words all from (base + unit) room
room-window words all pairs base unit from Nowhere above window run =
    run-same all (shift base pairs) base (base + unit) from (base + unit) above (omega arith) (same-window all pairs base unit window) run
room-window words all pairs base unit from (At word) above window room =
    let within = room.0 in
    let low = room.1.rising in
    let same = same-window all pairs base unit window in
    (room.0, run-same all (shift base pairs) base (base + unit) from word above (omega arith) same room.1, same.same word (omega arith) within ∙ room.2)
room-window words all pairs base unit from (In child width start) above window room =
    let within = room.0 in
    let low = room.1.rising in
    let same = same-window all pairs base unit window in
    let inner = room.2 in (
      room.0,
      run-same all (shift base pairs) base (base + unit) from start above (omega arith) same room.1,
      record {
        child = inner.child;
        narrow = inner.narrow;
        window = room-same words all (shift base pairs) child.now.pairs base (base + unit) start (256 ^ width) (omega arith) within same inner.window;
        room = inner.room;
      },
    )

-- ---- one behind the other

-- A room behind a run.
pub room-behind : {V : _} (words : ℕ) (all : Pairs) (from middle top : ℕ) (room : Room V) → IsRun all from middle → IsRoomFrom words all middle top room → IsRoomFrom words all from top room
room-behind words all from middle top Nowhere run room = run-join all from middle top run room
room-behind words all from middle top (At word) run room = (room.0, run-join all from middle word run room.1, room.2)
room-behind words all from middle top (In child width start) run room = (room.0, run-join all from middle start run room.1, room.2)

-- A room that isn't nowhere is the one.
pub own_room : {V : _} (Holds : Room V → Type 0) (room : Room V) → (room ≡ Nowhere → ⊥) → OrElse room Holds room
own_room Holds Nowhere some = absurd (some refl)
own_room Holds (At word) some = refl
own_room Holds (In child width start) some = refl

pub or_else : {V : _} (Holds Told : Room V → Type 0) (room result : Room V) → ((other : Room V) → Holds other → Told other) → OrElse room Holds result → OrElse room Told result
or_else Holds Told Nowhere result so is = so result is
or_else Holds Told (At word) result so is = is
or_else Holds Told (In child width start) result so is = is

-- The nearer of two rooms.
pub room-nearer : {V : _} (words : ℕ) (all : Pairs) (from middle top : ℕ) (room result : Room V) → middle ≤ top → IsRoomFrom words all from middle room →
    OrElse room (λ (other : Room V). IsRoomFrom words all middle top other) result
    → IsRoomFrom words all from top result
room-nearer words all from middle top Nowhere result within run later = room-behind words all from middle top result run later
room-nearer words all from middle top (At word) result within room is = let small = room.0 in subst (IsRoomFrom words all from top) (sym is) (omega arith, room.1, room.2)
room-nearer words all from middle top (In child width start) result within room is = let small = room.0 in subst (IsRoomFrom words all from top) (sym is) (omega arith, room.1, room.2)

-- The word in a child's room.
pub word-in : (words : ℕ) (all : Pairs) (from top : ℕ) (kid : Tree) (width start word : ℕ) → start + 256 ^ width ≤ top → IsRun all from start →
    HasRoom words all kid width start → IsFirstAbsent kid.pairs 0 (256 ^ width) (Some word) → IsFirstAbsent all from top (Some (start + word))
word-in words all from top kid width start word fits run room told =
    let small = told.0 in (
      omega arith,
      run-join all from start (start + word) run (run-window all kid.pairs start (256 ^ width) 0 word start (start + word) (omega arith) refl (omega arith) room.window told.1),
      room.window.same word small ∙ told.2,
    )

-- ---- the same downwards

pub room-window-down : {V : _} (words : ℕ) (all pairs : Pairs) (base unit to : ℕ) (room : Room V) → to ≤ base + unit → IsWindow all base unit pairs →
    IsRoomUpTo words (shift base pairs) base to room → IsRoomUpTo words all base to room
room-window-down words all pairs base unit to Nowhere below window run = run-same all (shift base pairs) base (base + unit) base to (omega arith) below (same-window all pairs base unit window) run
room-window-down words all pairs base unit to (At word) below window room =
    let low = room.0 in
    let high = room.1.rising in
    let same = same-window all pairs base unit window in
    (low, run-same all (shift base pairs) base (base + unit) (word + 1) to (omega arith) below same room.1, same.same word low (omega arith) ∙ room.2)
room-window-down words all pairs base unit to (In child width start) below window room =
    let low = room.0 in
    let high = room.1.rising in
    let same = same-window all pairs base unit window in
    let inner = room.2 in (
      low,
      run-same all (shift base pairs) base (base + unit) (start + 256 ^ width) to (omega arith) below same room.1,
      record {
        child = inner.child;
        narrow = inner.narrow;
        window = room-same words all (shift base pairs) child.now.pairs base (base + unit) start (256 ^ width) low (omega arith) same inner.window;
        room = inner.room;
      },
    )

pub room-before : {V : _} (words : ℕ) (all : Pairs) (from middle to : ℕ) (room : Room V) → IsRun all middle to → IsRoomUpTo words all from middle room → IsRoomUpTo words all from to room
room-before words all from middle to Nowhere run room = run-join all from middle to room run
room-before words all from middle to (At word) run room = (room.0, run-join all (word + 1) middle to room.1 run, room.2)
room-before words all from middle to (In child width start) run room = (room.0, run-join all (start + 256 ^ width) middle to room.1 run, room.2)

pub room-nearer-down : {V : _} (words : ℕ) (all : Pairs) (from middle to : ℕ) (room result : Room V) → from ≤ middle → IsRoomUpTo words all middle to room →
    OrElse room (λ (other : Room V). IsRoomUpTo words all from middle other) result
    → IsRoomUpTo words all from to result
room-nearer-down words all from middle to Nowhere result within run earlier = room-before words all from middle to result run earlier
room-nearer-down words all from middle to (At word) result within room is = let low = room.0 in subst (IsRoomUpTo words all from to) (sym is) (omega arith, room.1, room.2)
room-nearer-down words all from middle to (In child width start) result within room is = let low = room.0 in subst (IsRoomUpTo words all from to) (sym is) (omega arith, room.1, room.2)

pub word-in-last : (words : ℕ) (all : Pairs) (from to : ℕ) (kid : Tree) (width start word : ℕ) → from ≤ start → IsRun all (start + 256 ^ width) to →
    HasRoom words all kid width start → IsLastAbsent kid.pairs 0 (256 ^ width) (Some word) → IsLastAbsent all from to (Some (start + word))
word-in-last words all from to kid width start word low run room told =
    let high = told.1.rising in (
      omega arith,
      run-join all (start + word + 1) (start + 256 ^ width) to (run-window all kid.pairs start (256 ^ width) (word + 1) (256 ^ width) (start + word + 1)
          (start + 256 ^ width) (omega arith) refl (omega arith) room.window told.1) run,
      room.window.same word (omega arith) ∙ told.2,
    )

-- Where all words of a window are keys, all of its own are.
pub run-back : (all pairs : Pairs) (base unit : ℕ) → IsWindow all base unit pairs → IsRun all base (base + unit) → IsRun pairs 0 unit
run-back all pairs base unit window run = record { rising = omega arith; held = λ word low high. sym (window.same word high) ∙ run.held (base + word) (omega arith) (omega arith) }

-- ---- the way of a key

module _ {V : _} (words : ℕ) (tree : Pairs) (view : ViewOf V) (key left : ℕ) (down : IsDown words tree view key left) where
  pub down_window : IsWindow tree (key - left) (256 ^ width_of view) (view_pairs view)
  down_window = window-part words (256 ^ 8) (key - left) (256 ^ width_of view) tree (view_pairs view) down.front down.back down.part

  pub down_absent : has (keys_of (view_pairs view)) left ≡ false → has (keys_of tree) key ≡ false
  down_absent absent = let above = down.above in ap (has (keys_of tree)) (let e : key ≡ key - left + left = omega arith in e) ∙ down_window.same left down.inside ∙ absent

  -- What a node without children tells.
  pub down_word : (word : ℕ) → IsFirstAbsent (view_pairs view) left (256 ^ width_of view) (Some word) → IsFirstAbsent tree key (2 ^ 64) (Some (key - left + word))
  down_word word told =
      let above = down.above in
      let fits = down.part.fits in
      let small = told.0 in (
        omega arith,
        run-window tree (view_pairs view) (key - left) (256 ^ width_of view) left word key (key - left + word) (omega arith) refl (omega arith) down_window told.1,
        down_window.same word small ∙ told.2,
      )

  pub down_last : (word : ℕ) → IsLastAbsent (view_pairs view) 0 (left + 1) (Some word) → IsLastAbsent tree 0 (key + 1) (Some (key - left + word))
  down_last word told =
      let above = down.above in
      let inside = down.inside in
      let high = told.1.rising in (
        omega arith,
        run-window tree (view_pairs view) (key - left) (256 ^ width_of view) (word + 1) (left + 1) (key - left + word + 1) (key + 1) (omega arith) (omega arith) (omega arith) down_window told.1,
        down_window.same word (omega arith) ∙ told.2,
      )

  pub down_run_last : IsRun (view_pairs view) 0 (left + 1) → IsRun tree (key - left) (key + 1)
  down_run_last run =
      let above = down.above in let inside = down.inside in run-window tree (view_pairs view) (key - left) (256 ^ width_of view) 0 (left + 1) (key - left) (key + 1)
      (omega arith) (omega arith) (omega arith) down_window run

  pub down_run : (to : ℕ) → to ≤ 256 ^ width_of view → IsRun (view_pairs view) left to → IsRun tree key (key - left + to)
  down_run to fits run = let above = down.above in run-window tree (view_pairs view) (key - left) (256 ^ width_of view) left to key (key - left + to) (omega arith) refl fits down_window run

module _ {V : _} (words : ℕ) (tree : Pairs) (b : _) (key left : ℕ) (down : IsDown {V = V} words tree (Branch b) key left) where
  module _ (byte place rest : ℕ) (steps : IsStep (256 ^ b.now.width) (number_of b.now.skip * 256) b.now.bytes left (Child byte place rest)) where
    module _ (kid : Tree) (is : kid ≡ get_or b.now.children.items place kid) where
      there : slice_get b.now.children.items place ≡ Some kid
      there = slice_get-get_or b.now.children.items place kid (child_inside down byte place rest steps) ∙ ap Some (sym is)

      pub child_window : IsWindow tree (key - rest) (256 ^ b.now.width) kid.pairs
      child_window =
          let level = down.shown.place.1 in
          let is_key = steps.0.key_is in
          let above = down.above in
          let small = steps.0.byte_is in
          window-window tree (branch_pairs b.now.width b.now.skip b.now.bytes b.now.children.items) kid.pairs (key - left) (256 ^ (length b.now.skip + 1 + b.now.width))
          ((number_of b.now.skip * 256 + byte) * 256 ^ b.now.width) (256 ^ b.now.width) (key - rest) (omega arith)
          (block_within words b.now.width b.now.skip b.now.bytes b.now.children.items b.now.population level byte small)
          (down_window words tree (Branch b) key left down)
          (kid_window words b.now.width b.now.skip b.now.bytes b.now.children.items b.now.population level byte place kid steps.1 there)

      child_ok : IsChild words b.now.width kid
      child_ok = kid_is words b.now.width b.now.skip b.now.bytes b.now.children.items b.now.population down.shown.place.1 byte place kid steps.1 there

      -- A child that isn't full has fewer keys than words.
      pub child_room : length kid.pairs ≢ 256 ^ b.now.width → length kid.pairs < 256 ^ b.now.width
      child_room room = let most = map-length words 0 (256 ^ b.now.width) kid.pairs (omega arith) child_ok.map in omega arith

      -- Of a full one all words are keys.
      pub full_behind : length kid.pairs ≡ 256 ^ b.now.width → IsRun tree key (key - rest + 256 ^ b.now.width)
      full_behind full =
          let below = steps.0.rest_is in
          let is_key = steps.0.key_is in
          let above = down.above in
          run-window tree kid.pairs (key - rest) (256 ^ b.now.width) rest (256 ^ b.now.width) key (key - rest + 256 ^ b.now.width) (omega arith) refl (omega arith) child_window
          (run-later kid.pairs 0 rest (256 ^ b.now.width) (omega arith) (omega arith) (run-full words 0 (256 ^ b.now.width) kid.pairs (omega arith) child_ok.map (omega arith)))

      pub full_before : length kid.pairs ≡ 256 ^ b.now.width → IsRun tree (key - rest) (key + 1)
      full_before full =
          let below = steps.0.rest_is in
          let is_key = steps.0.key_is in
          let above = down.above in
          let run = run-full words 0 (256 ^ b.now.width) kid.pairs (omega arith) child_ok.map (omega arith) in
          run-window tree kid.pairs (key - rest) (256 ^ b.now.width) 0 (rest + 1) (key - rest) (key + 1) (omega arith) (omega arith) (omega arith) child_window
          (record { rising = omega arith; held = λ word low high. run.held word low (omega arith) })
