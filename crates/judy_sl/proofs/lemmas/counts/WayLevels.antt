-- The first levels on the way of a key, one entry after the other, as another way down passes them.
use Rattle.std.proofs.Common.{◌≡◌, ℕ, zero, suc, ◌+◌, ◌*◌, ◌<◌, ◌≤◌, List, [], ◌∷◌, ◌++◌, length, take, drop, Option, None, Some, inl, inr, IsSome, true≢false, refl, sym, ap, subst, ◌∙◌, arith}
use Rattle.std.proofs.lemmas.Bool.{cases_lt}
use Rattle.std.proofs.lemmas.List.{length-take, take_min}
use Rattle.std.proofs.lemmas.Option.{same_Some}
use Rattle.std.specs.FinMap.{FinMap}
use Rattle.judy_model.specs.Keys.{word_order}
use Rattle.judy_sl.specs.Children.{Child, Free, Tail, Level, IsLevelChild}
use Rattle.judy_sl.specs.declared.arena.Arena.{Arena}
use Rattle.judy_sl.specs.declared.passed.Noted.TheVariants.{Count}
use Rattle.judy_sl.specs.Pieces.{pieces, piece_of, IsText, AreInner}
use Rattle.judy_sl.specs.World.{World, Node, gone, tail, level, walk}
use Rattle.judy_sl.specs.Arenas.{world_of, node_of, child_at, IsArena}
use Rattle.judy_sl.specs.Stepped.{entry_under}
use Rattle.judy_sl.specs.Places.{IsLevelPlace}
use Rattle.judy_sl.specs.Ways.{place_in, seat_in, passed_there, passed_from, levels_passed}
use Rattle.judy_sl.specs.Noted.{AreNoted, AreFirstPassed}
use Rattle.judy_sl.specs.Counted.{AreOnce}
use Rattle.judy_sl.specs.Listed.{StaysLed}
use Rattle.judy_sl.specs.Strings.{IsString}
use Rattle.judy_sl.proofs.lemmas.pieces.PieceLemmas.{text_of_key, text-drop, piece-IsInner}
use Rattle.judy_sl.proofs.lemmas.pieces.Ways.{pieces_short, pieces_long, step-parts, walk-append, walk-more}
use Rattle.judy_sl.proofs.lemmas.pieces.OnWay.{pieces-head, inner-more}
use Rattle.judy_sl.proofs.lemmas.inserts.Filled.{level-child}
use Rattle.judy_sl.proofs.lemmas.counts.CountedAdded.{level-told}
use Rattle.judy_sl.proofs.lemmas.counts.ListWays.{entry_level}
use Rattle.judy_sl.proofs.lemmas.counts.PassedLevels.{passed-last, passed-none, passed-step, goes-on, once-front, once-passed, passed-few}

-- ---- entry by entry

-- From a seat on each of these levels is led to by the entry of the level before.
abbrev pub AreAlong : World → ℕ → List ℕ → List ℕ → Type 0
AreAlong world seat [] rest = Unit {0}
AreAlong world seat (at ∷ places) rest = (8 ≤ length rest) × (entry_under (world seat) (piece_of rest) ≡ Some at) × ((map : FinMap word_order ℕ) × (world (suc at) ≡ level map)) ×
    AreAlong world (suc at) places (drop 8 rest)

-- The first level that a way passes.
record IsFirst (world : World) (seat : ℕ) (rest : List ℕ) (at : ℕ) (more : List ℕ) : Type 0 where
  pub long : 8 ≤ length rest
  pub entry : entry_under (world seat) (piece_of rest) ≡ Some at
  pub map : FinMap word_order ℕ
  pub is_level : world (suc at) ≡ level map
  pub then : passed_from world (suc at) (pieces (drop 8 rest)) ≡ more

module _ (world : World) (seat : ℕ) (rest : List ℕ) (at : ℕ) (more : List ℕ) (passed : passed_from world seat (pieces rest) ≡ at ∷ more) where
  module _ (long : 8 ≤ length rest) where
    head : (behind : List ℕ) × (pieces (drop 8 rest) ≡ piece_of (drop 8 rest) ∷ behind)
    head = pieces-head (drop 8 rest)

    whole : pieces rest ≡ piece_of rest ∷ piece_of (drop 8 rest) ∷ head.0
    whole = pieces_long rest long ∙ ap (λ ps. piece_of rest ∷ ps) head.1

    by_node : (to : ℕ) → entry_under (world seat) (piece_of rest) ≡ Some to → (node : Node) → world (suc to) ≡ node →
        passed_there node to (passed_from world (suc to) (piece_of (drop 8 rest) ∷ head.0)) ≡ at ∷ more → IsFirst world seat rest at more
    by_node to entry gone e is = absurd (cc)
    by_node to entry (tail held value) e is = absurd (cc)
    by_node to entry (level map) e is =
        let same : to ≡ at = cc in
        let left : passed_from world (suc to) (piece_of (drop 8 rest) ∷ head.0) ≡ more = cc in
        record {
          long = long;
          entry = entry ∙ ap (λ k. Some k) same;
          map = map;
          is_level = ap (λ k. world (suc k)) (sym same) ∙ e;
          then = ap (λ k. passed_from world (suc k) (pieces (drop 8 rest))) (sym same) ∙ ap (passed_from world (suc to)) head.1 ∙ left;
        }

    by_entry : (found : Option ℕ) → entry_under (world seat) (piece_of rest) ≡ found → IsFirst world seat rest at more
    by_entry None e =
        let none : [] ≡ at ∷ more = sym (ap (passed_from world seat) whole ∙ passed-none world seat (piece_of rest) (piece_of (drop 8 rest) ∷ head.0) e) ∙ passed in
        absurd (cc)
    by_entry (Some to) e =
        by_node to e (world (suc to)) refl (sym (ap (passed_from world seat) whole ∙ passed-step world seat (piece_of rest) (piece_of (drop 8 rest)) head.0 to e) ∙ passed)

  passed-first : IsFirst world seat rest at more
  passed-first = elim (cases_lt (length rest) 8) [
    | inl short ↦
        let none : [] ≡ at ∷ more = sym (ap (passed_from world seat) (pieces_short rest short) ∙ passed-last world seat (piece_of rest)) ∙ passed in
        absurd (cc)
    | inr long ↦ by_entry long (entry_under (world seat) (piece_of rest)) refl
  ]

module _ (world : World) where
  -- What a way passes is so,
  pub along-passed : (places : List ℕ) (seat : ℕ) (rest : List ℕ) → passed_from world seat (pieces rest) ≡ places → AreAlong world seat places rest
  along-passed [] seat rest passed = tt
  along-passed (at ∷ places) seat rest passed =
      let first = passed-first world seat rest at places passed in
      (first.long, first.entry, (first.map, first.is_level), along-passed places (suc at) (drop 8 rest) first.then)

  -- and so are the first ones of these.
  pub along-front : (count : ℕ) (places : List ℕ) (seat : ℕ) (rest : List ℕ) → AreAlong world seat places rest → AreAlong world seat (take count places) rest
  along-front zero places seat rest along = tt
  along-front (suc count) [] seat rest along = tt
  along-front (suc count) (at ∷ places) seat rest along = (along.0, along.1, along.2, along-front count places (suc at) (drop 8 rest) along.3)

  -- Then they are the first that the way passes.
  pub along-first : (places : List ℕ) (seat : ℕ) (rest : List ℕ) → AreAlong world seat places rest → take (length places) (passed_from world seat (pieces rest)) ≡ places
  along-first [] seat rest along = refl
  along-first (at ∷ places) seat rest along =
      let there = entry_level (world seat) (piece_of rest) at along.1 in
      ap (take (suc (length places))) (goes-on world seat there.0 there.1 rest along.0 at there.2 along.2.0 along.2.1)
      ∙ ap (λ left. at ∷ left) (along-first places (suc at) (drop 8 rest) along.3)

  pub along-way : (key : List ℕ) → AreAlong world 0 (levels_passed world key) key
  along-way key = along-passed (levels_passed world key) 0 key refl

-- The next one.
pub record IsNext (world : World) (seat : ℕ) (places rest : List ℕ) : Type 0 where
  pub at : ℕ
  pub more : List ℕ
  pub are : places ≡ at ∷ more
  pub long : 8 ≤ length rest
  pub entry : entry_under (world seat) (piece_of rest) ≡ Some at
  pub along : AreAlong world (suc at) more (drop 8 rest)

pub next-along : (world : World) (seat : ℕ) (places rest : List ℕ) (left : ℕ) → length places ≡ left → 1 ≤ left → AreAlong world seat places rest → IsNext world seat places rest
next-along world seat [] rest left long some along = absurd (let never : ⊥ = omega (arith, long, some) in never)
next-along world seat (at ∷ places) rest left long some along = record { at = at; more = places; are = refl; long = along.0; entry = along.1; along = along.3 }

-- Where an entry leads to a level that is told, the next one is that.
pub next-is : (world : World) (seat : ℕ) (places rest : List ℕ) (next : IsNext world seat places rest) (at : ℕ) → entry_under (world seat) (piece_of rest) ≡ Some at →
    (places ≡ at ∷ next.more) × AreAlong world (suc at) next.more (drop 8 rest)
next-is world seat places rest next at entry =
    let same : next.at ≡ at = same_Some next.at at (sym next.entry ∙ entry) in
    (next.are ∙ ap (λ k. k ∷ next.more) same, subst (λ k. AreAlong world (suc k) next.more (drop 8 rest)) same next.along)

pub none-left : (places : List ℕ) (left : ℕ) → length places ≡ left → left ≤ 0 → places ≡ []
none-left [] left long none = refl
none-left (at ∷ places) left long none = absurd (let never : ⊥ = omega (arith, long, none) in never)

-- Where a seat has an entry a level stands there.
pub under_stands : (arena : Arena) (child : Option ℕ) (piece at : ℕ) → entry_under (world_of arena (seat_in child)) piece ≡ Some at → IsLevelPlace arena (place_in child 0)
under_stands arena None piece at entry = tt
under_stands arena (Some to) piece at entry =
    let there = entry_level (world_of arena (suc to)) piece at entry in
    level-child (child_at arena to) there.0 there.1

pub some_entry : (found : Option ℕ) → IsSome found → (at : ℕ) × (found ≡ Some at)
some_entry None is = absurd (true≢false (sym is))
some_entry (Some at) is = (at, refl)

-- ---- as notes tell of them

-- Notes of so many levels.
pub noted-count : (count : ℕ) (places : List ℕ) → AreNoted (Count count) places → (world : World) (key : List ℕ) → AreFirstPassed world key places → take count (levels_passed world key) ≡ places
noted-count count places are world key first = ap (λ n. take n (levels_passed world key)) are ∙ first

module _ (world : World) (key places : List ℕ) (first : AreFirstPassed world key places) where
  pub first-short : length places ≤ length (levels_passed world key)
  first-short =
      let long = length-take (length places) (levels_passed world key) in
      let same = ap (λ (ps : List ℕ). length ps) first in
      omega (arith, long, same)

pub first-once : (arena : Arena) → IsArena arena → (key : List ℕ) → IsString key → (places : List ℕ) → AreFirstPassed (world_of arena) key places → AreOnce places
first-once arena is key is_key places first =
    subst AreOnce first (once-front (length places) (levels_passed (world_of arena) key) (once-passed (world_of arena) is.behind is.is_world key is_key))

-- As many of the first ones.
pub first-taken : (world : World) (key : List ℕ) (count : ℕ) → AreFirstPassed world key (take count (levels_passed world key))
first-taken world key count =
    ap (λ n. take n (levels_passed world key)) (length-take count (levels_passed world key)) ∙ take_min count (levels_passed world key)

-- Nor are they more than a key of its length passes.
pub first-few : (world : World) (key : List ℕ) (most count : ℕ) → length key < 8 * most + 8 → length (take count (levels_passed world key)) ≤ most
first-few world key most count short =
    let few = passed-few world key most short in
    let long = length-take count (levels_passed world key) in
    omega (arith, few, long)

-- ---- where levels stay

module _ (before after : Arena) (stays : StaysLed before after) where
  level_node : (child : Child) → IsLevelChild child → (map : FinMap word_order ℕ) × (node_of child ≡ level map)
  level_node Free is = absurd is
  level_node (Tail rest) is = absurd is
  level_node (Level keys words) is = (words.map, refl)

  -- They are still led to by the same entries.
  along-stays : (places rest : List ℕ) (seat : ℕ) (front : List ℕ) → IsText rest → AreInner front → walk (world_of before) 0 front ≡ Some seat → walk (world_of after) 0 front ≡ Some seat →
      AreAlong (world_of before) seat places rest → AreAlong (world_of after) seat places rest
  along-stays [] rest seat front text inner way now along = tt
  along-stays (at ∷ places) rest seat front text inner way now along =
      let there = entry_level (world_of before seat) (piece_of rest) at along.1 in
      let goes = walk-more (world_of before) 0 front seat there.0 (piece_of rest) at way there.1 there.2 in
      let its = inner-more front (piece_of rest) inner (piece-IsInner rest text along.0) in
      let told = level-told (child_at before at) along.2.0 along.2.1 in
      let still = stays at told.0 told.1 told.2 in
      let here = still.1 (front ++ piece_of rest ∷ []) its goes in
      let on = sym (walk-append (world_of after) 0 front (piece_of rest ∷ []) seat now) ∙ here in
      let step = step-parts (world_of after seat) (piece_of rest) (λ found. walk (world_of after) (suc found) []) (suc at) on in
      let same : step.found ≡ at = (let goes_to : Some (suc step.found) ≡ Some (suc at) = step.goes in cc) in (
        along.0,
        ap (λ node. entry_under node (piece_of rest)) step.is ∙ step.entry ∙ ap (λ k. Some k) same,
        level_node (child_at after at) still.0,
        along-stays places (drop 8 rest) (suc at) (front ++ piece_of rest ∷ []) (text-drop 8 rest text) its goes here along.3,
      )

  pub first-stays : (key : List ℕ) → IsString key → AreFirstPassed (world_of after) key (levels_passed (world_of before) key)
  first-stays key is_key =
      along-first (world_of after) (levels_passed (world_of before) key) 0 key
      (along-stays (levels_passed (world_of before) key) key 0 [] (text_of_key key is_key) tt refl refl (along-way (world_of before) key))
