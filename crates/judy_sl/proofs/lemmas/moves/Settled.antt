-- An arena whose tails stand at other places.
use Rattle.std.proofs.Common.{◌≡◌, ◌≢◌, ℕ, suc, ◌/◌, ◌%◌, ◌<◌, true, false, List, Option, None, Some, length, IsSome, inl, inr, refl, sym, ap, subst, ◌∙◌, arith}
use Rattle.std.proofs.lemmas.Bool.{cases_eq, eq-eqb, true≢false}
use Rattle.std.specs.FinMap.{FinMap, get, len}
use Rattle.slab.specs.Slab as slab
use Rattle.judy_model.specs.Keys.{word_order, byte_order}
use Rattle.judy_tails.specs.Places.{text_of}
use Rattle.judy_tails.specs.Tails.{tail_at, HasFree}
use Rattle.judy_sl.specs.declared.arena.Arena.{Arena}
use Rattle.judy_sl.specs.declared.arena.Place.{Place}
use Rattle.judy_sl.specs.declared.arena.Place.TheVariants.{Root, Below}
use Rattle.judy_sl.specs.Pieces.{pieces, IsInner}
use Rattle.judy_sl.specs.Children.{Child, Free, Tail, Level, is_level, tail_child, child_with, value_at, IsTaken, IsLevelChild}
use Rattle.judy_sl.specs.World.{World, gone, tail, level}
use Rattle.judy_sl.specs.WorldInvariants.{IsWorld, AllLed}
use Rattle.judy_sl.specs.Arenas.{world_of, node_of, child_at, map_of, IsArena, HasText, AreWithin, IsStrings}
use Rattle.judy_sl.specs.Places.{IsPlace, IsLevelPlace, place_with, place_value}
use Rattle.judy_sl.specs.Ways.{seat_of, piece_at, seat_in, place_in}
use Rattle.judy_sl.specs.Behind.{map_behind}
use Rattle.judy_sl.specs.Counted.{keys_behind, LevelTells, Same, AreCounted}
use Rattle.judy_sl.specs.Firsts.{AreFirsts}
use Rattle.judy_sl.specs.Listed.{Lists, place_of, AreListed}
use Rattle.judy_sl.specs.Grown.{IsPut}
use Rattle.judy_sl.specs.Shrunk.{IsVacated}
use Rattle.judy_sl.specs.Settled.{IsEntry, HasFreeFor, IsKept, IsSettled}
use Rattle.judy_sl.proofs.lemmas.seats.Seats.{set_node}
use Rattle.judy_sl.proofs.lemmas.seats.PlaceKinds.{child-tail}
use Rattle.judy_sl.proofs.lemmas.seats.Linked.{node_with, can-with, child_at-same, child_at-other, tail_there, level_there, taken_of, texts-place, world-with_place}
use Rattle.judy_sl.proofs.lemmas.inserts.Tailed.{world-put, level-put}
use Rattle.judy_sl.proofs.lemmas.inserts.Filled.{level-there}
use Rattle.judy_sl.proofs.lemmas.inserts.Hangs.{StandsStill, stands-start, stands-put, stands-taken, stands-value, taken-led}
use Rattle.judy_sl.proofs.lemmas.removals.Shrinks.{vacated-world}
use Rattle.judy_sl.proofs.lemmas.moves.Moved.{IsTailLed, moved, moved_behind, moved-world, moved-led, moved-map}

-- ---- what settles

pub settled-start : (arena : Arena) → IsKept arena → IsSettled arena arena
settled-start arena kept = record { kept = kept; same = refl; levels = λ at there. there; behind = λ at is. refl }

pub settled-then : (before now after : Arena) → IsSettled before now → IsSettled now after → IsSettled before after
settled-then before now after one two = record {
  kept = two.kept;
  same = two.same ∙ one.same;
  levels = λ at there. two.levels at (one.levels at there);
  behind = λ at is. two.behind at is ∙ one.behind at is;
}

-- An array of it keeps what it kept.
module _ (before after : Arena) (settled : IsSettled before after) where
  pub settled-strings : {most longest : ℕ} (limit count : ℕ) → IsStrings most longest limit count before → IsStrings most longest limit count after
  settled-strings {longest = longest} limit count is = record {
    is_arena = settled.kept.is_arena;
    led = settled.kept.led;
    counted = is.counted ∙ ap (λ (m : FinMap byte_order ℕ). len m) (sym settled.same);
    within_limit = is.within_limit;
    holds_some = is.holds_some;
    limit_fits = is.limit_fits;
    short = subst (AreWithin longest) (sym settled.same) is.short;
    longest_fits = is.longest_fits;
  }

  pub settled-firsts : (firsts : FinMap word_order ℕ) → AreFirsts (map_of before) firsts → AreFirsts (map_of after) firsts
  settled-firsts firsts are = subst (λ (m : FinMap byte_order ℕ). AreFirsts m firsts) (sym settled.same) are

  pub settled-listed : (lists : Lists) → AreListed (world_of before) lists → AreListed (world_of after) lists
  settled-listed lists are = λ index list there.
      let was = are index list there in
      let is : is_level (place_of index) ≡ true = level-place index in
      let same = sym (settled.behind (place_of index) is) in
      record {
        firsts = subst (λ (m : FinMap byte_order ℕ). AreFirsts m list) same was.firsts;
        many = subst (λ (m : FinMap byte_order ℕ). 32 < len m) same was.many;
      }
    where
      level-place : (index : ℕ) → is_level (place_of index) ≡ true
      level-place index = eq-eqb (place_of index % 256) 255 (omega arith)

-- ---- levels and their entries

-- Where a level stands the place is one for levels.
pub level-is : (arena : Arena) (at : ℕ) → IsLevelChild (child_at arena at) → is_level at ≡ true
level-is arena at there = by (child_at arena at) refl there
  where
    by : (child : Child) → child_at arena at ≡ child → IsLevelChild child → is_level at ≡ true
    by Free e is = absurd is
    by (Tail rest) e is = absurd is
    by (Level keys words) e is = (level_there (is_level at) (slab.get arena.levels (at / 256)) (tail_at arena.tails at) keys words e).0

pub level-taken : (child : Child) → IsLevelChild child → IsTaken child
level-taken Free is = is
level-taken (Tail rest) is = tt
level-taken (Level keys words) is = tt

-- An entry stands in a level.
abbrev pub StandsIn : World → ℕ → ℕ × ℕ → Type 0
StandsIn world seat entry = (map : FinMap word_order ℕ) × (world seat ≡ level map) × (get map entry.0 ≡ Some entry.1)

pub stands-entry : (arena : Arena) (child : Option ℕ) (piece at : ℕ) → IsInner piece → StandsIn (world_of arena) (seat_in child) (piece, at) → IsEntry arena (place_in child piece) at
stands-entry arena None piece at inner stands = record { map = stands.0; is_level = stands.1; inner = inner; entry = stands.2 }
stands-entry arena (Some k) piece at inner stands = record { map = stands.0; is_level = stands.1; inner = inner; entry = stands.2 }

-- A level stays.
pub level-stays : (before after : Arena) → IsSettled before after → (child : Option ℕ) → IsLevelPlace before (place_in child 0) → IsLevelPlace after (place_in child 0)
level-stays before after settled None there = tt
level-stays before after settled (Some k) there = settled.levels k there

-- A tail that stands in a spare page.
pub spare-tail : (arena : Arena) (at : ℕ) → is_level at ≡ false → IsTaken (child_at arena at) → HasFree arena.tails (length (text_of (tail_at arena.tails at))) → HasFreeFor arena at
spare-tail arena at is taken has = by (tail_at arena.tails at) refl
  where
    by : (slot : Option (List ℕ × ℕ)) → tail_at arena.tails at ≡ slot → HasFreeFor arena at
    by None e = absurd (subst IsTaken (child-tail arena at is ∙ ap tail_child e) taken)
    by (Some rest) e = record {
      rest = rest;
      stands = child-tail arena at is ∙ ap tail_child e;
      free = subst (λ slot. HasFree arena.tails (length (text_of slot))) e has;
    }

-- ---- an entry of a level

pub entry-value : (arena : Arena) (from : Place) (at : ℕ) → IsEntry arena from at → place_value arena from ≡ Some at
entry-value arena (Root piece) at entry =
    let maps : level arena.root.map ≡ level entry.map = entry.is_level in
    let same : arena.root.map ≡ entry.map = cc in
    ap (λ (m : FinMap word_order ℕ). get m piece) same ∙ entry.entry
entry-value arena (Below k piece) at entry = by (child_at arena k) refl
  where
    by : (child : Child) → child_at arena k ≡ child → value_at (child_at arena k) piece ≡ Some at
    by Free e = absurd (let g : gone ≡ level entry.map = sym (ap node_of e) ∙ entry.is_level in cc)
    by (Tail rest) e = absurd (let g : tail (pieces rest.0) rest.1 ≡ level entry.map = sym (ap node_of e) ∙ entry.is_level in cc)
    by (Level keys words) e =
        let maps : level words.map ≡ level entry.map = sym (ap node_of e) ∙ entry.is_level in
        let same : words.map ≡ entry.map = cc in
        ap (λ child. value_at child piece) e ∙ ap (λ (m : FinMap word_order ℕ). get m piece) same ∙ entry.entry

pub entry-some : (arena : Arena) (from : Place) (at : ℕ) → IsEntry arena from at → IsSome (place_value arena from)
entry-some arena from at entry = subst IsSome (sym (entry-value arena from at entry)) refl

-- Something stands where it leads.
pub entry-taken : (arena : Arena) (is : IsArena arena) (from : Place) (at : ℕ) → IsEntry arena from at → IsTaken (child_at arena at)
entry-taken arena is from at entry = taken_of arena at ((is.is_world.levels (seat_of from) entry.map entry.is_level).leads (piece_at from) at entry.entry entry.inner).1

place-there : (arena : Arena) (place : Place) (map : FinMap word_order ℕ) → world_of arena (seat_of place) ≡ level map → IsPlace arena place
place-there arena (Root piece) map e = tt
place-there arena (Below k piece) map e = taken_of arena k (λ none. let g : gone ≡ level map = sym none ∙ e in cc)

-- What holds of a child with any value at a piece holds of each where a value is written.
place-keeps : (P : Child → Type 0) → ((child : Child) (piece value : ℕ) → P child → P (child_with child piece value)) → (arena : Arena) (value : ℕ) (place : Place) →
    IsPlace arena place → (k : ℕ) → P (child_at arena k) → P (child_at (place_with arena place value) k)
place-keeps P writes arena value (Root piece) inside k holds = holds
place-keeps P writes arena value (Below m piece) taken k holds =
    let child = child_with (child_at arena m) piece value in
    let can = can-with arena m piece value taken in
    elim (cases_eq k m) [
      | inl e ↦ subst P (sym (child_at-same arena m child can k e)) (writes (child_at arena m) piece value (subst (λ n. P (child_at arena n)) e holds))
      | inr apart ↦ subst P (sym (child_at-other arena m child can k apart)) holds
    ]

tells-with : (keys : ℕ) (child : Child) (piece value : ℕ) → LevelTells Same child keys → LevelTells Same (child_with child piece value) keys
tells-with keys Free piece value tells = tells
tells-with keys (Tail rest) piece value tells = tells
tells-with keys (Level told words) piece value tells = tells

level-with : (child : Child) (piece value : ℕ) → IsLevelChild child → IsLevelChild (child_with child piece value)
level-with Free piece value is = is
level-with (Tail rest) piece value is = is
level-with (Level told words) piece value is = is

-- ---- a tail that is put in once more, its entry led there, and its old place given back

module _ (before : Arena) (kept : IsKept before) (from : Place) (at to : ℕ) (entry : IsEntry before from at) (rest : List ℕ × ℕ) (stands : child_at before at ≡ Tail rest)
    (placed : Arena) (put_is : IsPut before placed (Tail rest) to) where
  still : StandsStill before placed
  still = stands-put before before placed (Tail rest) to (stands-start before) put_is

  pub placed-entry : IsSome (place_value placed from)
  placed-entry = stands-value before placed from still (entry-some before from at entry)

  pub led-taken : IsTaken (child_at (place_with placed from to) at)
  led-taken = taken-led placed from to at placed-entry (stands-taken before placed at still (subst IsTaken (sym stands) tt))

  here-level : world_of placed (seat_of from) ≡ level entry.map
  here-level = level-put before placed (Tail rest) to put_is (seat_of from) entry.map entry.is_level

  inside : IsPlace placed from
  inside = place-there placed from entry.map here-level

  module _ (after : Arena) (vacated : IsVacated (place_with placed from to) after at) where
    abbrev world : World
    world = world_of before

    abbrev behind : ℕ → List ℕ
    behind = kept.is_arena.behind

    abbrev is_world : IsWorld world behind
    is_world = kept.is_arena.is_world

    abbrev led : IsTailLed world (seat_of from) (piece_at from) at to
    led = record {
      map = entry.map;
      is_level = entry.is_level;
      inner = entry.inner;
      entry = entry.entry;
      held = pieces rest.0;
      value = rest.1;
      is_tail = ap node_of stands;
      free = put_is.was_free;
    }

    world-is : world_of after ≡ moved world behind is_world kept.led (seat_of from) (piece_at from) at to led
    world-is =
        vacated-world (place_with placed from to) after at vacated
        ∙ ap (λ w. set_node w (suc at) gone) (
        world-with_place placed from to inside
        ∙ (λ i. set_node (world-put before placed (Tail rest) to put_is i) (seat_of from) (node_with (here-level i) (piece_at from) to))
        )

    map-same : (seat : ℕ) → seat ≢ suc at → seat ≢ suc to → map_behind (world_of after) seat ≡ map_behind world seat
    map-same seat off away =
        ap (λ (w : World). map_behind w seat) world-is
        ∙ moved-map world behind is_world kept.led (seat_of from) (piece_at from) at to led seat off away

    suc-off : (k n : ℕ) → k ≢ n → suc k ≢ suc n
    suc-off k n off e = off (cc)

    -- ---- its children

    placed-texts : (k : ℕ) → HasText (child_at placed k)
    placed-texts k = elim (cases_eq k to) [
      | inl e ↦ subst HasText (sym (ap (λ n. child_at placed n) e ∙ put_is.here)) (subst HasText stands (kept.is_arena.texts at))
      | inr apart ↦ subst HasText (sym (put_is.elsewhere k apart)) (kept.is_arena.texts k)
    ]

    texts : (k : ℕ) → HasText (child_at after k)
    texts k = elim (cases_eq k at) [
      | inl e ↦ subst HasText (sym (ap (λ n. child_at after n) e ∙ vacated.here)) tt
      | inr off ↦ subst HasText (sym (vacated.elsewhere k off)) (texts-place placed to from inside placed-texts k)
    ]

    after-arena : IsArena after
    after-arena = record {
      behind = moved_behind world behind is_world kept.led (seat_of from) (piece_at from) at to led;
      is_world = subst (λ w. IsWorld w (moved_behind world behind is_world kept.led (seat_of from) (piece_at from) at to led)) (sym world-is)
          (moved-world world behind is_world kept.led (seat_of from) (piece_at from) at to led);
      texts = texts;
    }

    placed-tells : (k : ℕ) → k ≢ at → LevelTells Same (child_at placed k) (keys_behind (world_of after) (suc k))
    placed-tells k off =
        let keys = keys_behind (world_of after) (suc k) in
        elim (cases_eq k to) [
          | inl e ↦ subst (λ child. LevelTells Same child keys) (sym (ap (λ n. child_at placed n) e ∙ put_is.here)) tt
          | inr apart ↦
              let same = ap (λ (m : FinMap byte_order ℕ). len m) (map-same (suc k) (suc-off k at off) (suc-off k to apart)) in
              subst (λ child. LevelTells Same child keys) (sym (put_is.elsewhere k apart))
              (subst (λ n. LevelTells Same (child_at before k) n) (sym same) (kept.counted k))
        ]

    after-counted : AreCounted after
    after-counted k =
        let keys = keys_behind (world_of after) (suc k) in
        elim (cases_eq k at) [
          | inl e ↦ subst (λ child. LevelTells Same child keys) (sym (ap (λ n. child_at after n) e ∙ vacated.here)) tt
          | inr off ↦
              subst (λ child. LevelTells Same child keys) (sym (vacated.elsewhere k off))
              (place-keeps (λ child. LevelTells Same child keys) (tells-with keys) placed to from inside k (placed-tells k off))
        ]

    levels : (k : ℕ) → IsLevelChild (child_at before k) → IsLevelChild (child_at after k)
    levels k there =
        let off : k ≢ at = (λ e. subst IsLevelChild (ap (λ n. child_at before n) e ∙ stands) there) in
        let apart : k ≢ to = (λ e. level-there (child_at before k) there (ap (λ n. node_of (child_at before n)) e ∙ put_is.was_free)) in
        subst IsLevelChild (sym (vacated.elsewhere k off))
        (place-keeps IsLevelChild level-with placed to from inside k (subst IsLevelChild (sym (put_is.elsewhere k apart)) there))

    no-level : (arena : Arena) (k : ℕ) → child_at arena k ≡ Tail rest → is_level k ≡ false
    no-level arena k e = (tail_there (is_level k) (slab.get arena.levels (k / 256)) (tail_at arena.tails k) rest e).0

    level-off : (k n : ℕ) → is_level k ≡ true → is_level n ≡ false → k ≢ n
    level-off k n is not e = true≢false (sym is ∙ ap is_level e ∙ not)

    pub tail-settled : IsSettled before after
    tail-settled = record {
      kept = record {
        is_arena = after-arena;
        led = subst AllLed (sym world-is) (moved-led world behind is_world kept.led (seat_of from) (piece_at from) at to led);
        counted = after-counted;
      };
      same = map-same 0 (λ e. omega arith) (λ e. omega arith);
      levels = levels;
      behind = λ k is. map-same (suc k) (suc-off k at (level-off k at is (no-level before at stands))) (suc-off k to (level-off k to is (no-level placed to put_is.here)));
    }
