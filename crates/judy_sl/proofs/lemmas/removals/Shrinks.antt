-- What becomes of an arena where a key is taken out.
use Rattle.std.proofs.Common.{◌≡◌, ◌≢◌, ℕ, zero, suc, ◌<◌, ◌≤◌, List, [], ◌∷◌, ◌++◌, length, drop, Option, None, Some, is_some, true, inl, inr, refl, sym, ap, subst, ◌∙◌, arith}
use Rattle.std.proofs.lemmas.Bool.{cases_eq}
use Rattle.std.proofs.lemmas.Option.{same_Some}
use Rattle.std.specs.FinMap.{FinMap, get, remove}
use Rattle.judy_model.specs.Keys.{word_order}
use Rattle.judy_model.specs.Arrays.{ArrayOf}
use Rattle.judy_sl.specs.Children.{Child, Free, Tail, Level, level_of, IsTaken, IsLevelChild}
use Rattle.judy_sl.specs.declared.arena.Arena.{Arena}
use Rattle.judy_sl.specs.declared.arena.Place.{Place}
use Rattle.judy_sl.specs.declared.arena.Place.TheVariants.{Root, Below}
use Rattle.judy_sl.specs.declared.shrink.Cut.{Cut}
use Rattle.judy_sl.specs.Pieces.{pieces, piece_of, IsText, ArePieces}
use Rattle.judy_sl.specs.World.{World, Node, gone, tail, level, lookup, at_entry}
use Rattle.judy_sl.specs.WorldInvariants.{IsWorld, FitsBehind, AllLed}
use Rattle.judy_sl.specs.Arenas.{world_of, node_of, child_at, IsArena, HasText}
use Rattle.judy_sl.specs.Ways.{seat_of, piece_at, left_of}
use Rattle.judy_sl.specs.Grown.{IsChange}
use Rattle.judy_sl.specs.Shrunk.{without, child_without, place_without, IsVacated, EntryLone, NodeLone, IsLone, IsCutChild, IsCutWhere, IsOrphan, IsLeft, IsCleared, IsShrunk}
use Rattle.judy_sl.proofs.lemmas.pieces.PieceLemmas.{piece-IsFinal, piece-IsInner, text-drop, pieces_are}
use Rattle.judy_sl.proofs.lemmas.pieces.Ways.{lookup-walk, lookup-level, pieces_short, pieces_long}
use Rattle.judy_sl.proofs.lemmas.seats.Seats.{set_node, cond-same, cond-other, NodeFits, IsUsed}
use Rattle.judy_sl.proofs.lemmas.pieces.OnWay.{pieces-head}
use Rattle.judy_sl.proofs.lemmas.seats.Linked.{CanHold, world-with_child, world-with_root, arena-with_child, arena-with_root, taken_of}
use Rattle.judy_sl.proofs.lemmas.inserts.Filled.{level-stands}
use Rattle.judy_sl.proofs.lemmas.seats.PlaceKinds.{holds-level}
use Rattle.judy_sl.proofs.lemmas.seats.Lone.{lone-found}
use Rattle.judy_sl.proofs.lemmas.removals.Orphans.{freed, freed-world, freed-look, freed-tail, freed-last, freed-on, used-left, fits-here, ends-change, ends-led, on-change, on-orphan}

-- ---- a place becomes free

node-some : (node : Node) (piece : ℕ) (rest : List ℕ) (go : ℕ → Type 0) → NodeLone node piece rest go → node ≢ gone
node-some gone piece rest go lone e = lone
node-some (tail held value) piece rest go lone e = cc
node-some (level map) piece rest go lone e = cc

lone-some : (world : World) (at : ℕ) (ps : List ℕ) → IsLone world at ps → world (suc at) ≢ gone
lone-some world at [] lone = absurd lone
lone-some world at (piece ∷ rest) lone = node-some (world (suc at)) piece rest (λ found. IsLone world found rest) lone

-- Something stands where a key stands.
pub lone-taken : (arena : Arena) (at : ℕ) (ps : List ℕ) → IsLone (world_of arena) at ps → IsTaken (child_at arena at)
lone-taken arena at ps lone = taken_of arena at (lone-some (world_of arena) at ps lone)

module _ (arena after : Arena) (at : ℕ) (vacated : IsVacated arena after at) where
  vacated-world-at : (seat : ℕ) → world_of after seat ≡ freed (world_of arena) at seat
  vacated-world-at zero = ap (λ (words : ArrayOf word_order). level words.map) vacated.root ∙ sym (cond-other (world_of arena) (suc at) gone 0 (λ e. omega arith))
  vacated-world-at (suc k) = elim (cases_eq k at) [
    | inl e ↦ ap (λ n. node_of (child_at after n)) e ∙ ap node_of vacated.here ∙ sym (cond-same (world_of arena) (suc at) gone (suc k) (ap (λ n. suc n) e))
    | inr apart ↦ ap node_of (vacated.elsewhere k apart) ∙ sym (cond-other (world_of arena) (suc at) gone (suc k) (λ e. apart (omega arith)))
  ]

  pub vacated-world : world_of after ≡ freed (world_of arena) at
  vacated-world = λ i seat. vacated-world-at seat i

  -- What holds of a free place, and held of each child, holds.
  pub vacated-all : (Holds : Child → Type 0) → Holds Free → ((k : ℕ) → Holds (child_at arena k)) → (k : ℕ) → Holds (child_at after k)
  vacated-all Holds free held k = elim (cases_eq k at) [
    | inl e ↦ subst Holds (sym (ap (child_at after) e ∙ vacated.here)) free
    | inr apart ↦ subst Holds (sym (vacated.elsewhere k apart)) (held k)
  ]

  pub vacated-arena : (is : IsArena arena) (ps : List ℕ) → IsOrphan (world_of arena) at ps → IsArena after
  vacated-arena is ps loose = record {
    behind = is.behind;
    is_world = subst (λ w. IsWorld w is.behind) (sym vacated-world) (freed-world (world_of arena) at loose.unled is.behind is.is_world);
    texts = vacated-all HasText tt is.texts;
  }

  pub vacated-look : (ps : List ℕ) → IsOrphan (world_of arena) at ps → (other : List ℕ) → ArePieces other → lookup (world_of after) 0 other ≡ lookup (world_of arena) 0 other
  vacated-look ps loose other are =
      ap (λ (w : World). lookup w 0 other) vacated-world ∙ freed-look (world_of arena) at loose.unled 0 other (λ e. omega arith) are

-- ---- what stood below an entry is given back

-- What is found stays so far, and one child is loose.
pub record IsClearing (before now : Arena) (at : ℕ) (rest : List ℕ) : Type 0 where
  pub is_arena : IsArena now
  pub text : IsText rest
  pub loose : IsOrphan (world_of now) at (pieces rest)
  pub same : (ps : List ℕ) → ArePieces ps → lookup (world_of now) 0 ps ≡ lookup (world_of before) 0 ps
  pub left : IsLeft before now

-- What stood there, by the level that it was.
stood-level : (child : Child) (words : ArrayOf word_order) → level_of child ≡ Some words → node_of child ≡ level words.map
stood-level Free words is = absurd (cc)
stood-level (Tail rest) words is = absurd (cc)
stood-level (Level keys held) words is = ap (λ (w : ArrayOf word_order). level w.map) (same_Some held words is)

module _ (before now after : Arena) (at : ℕ) (rest : List ℕ) (is : IsClearing before now at rest) (vacated : IsVacated now after at) where
  after-world : world_of after ≡ freed (world_of now) at
  after-world = vacated-world now after at vacated

  after-arena : IsArena after
  after-arena = vacated-arena now after at vacated is.is_arena (pieces rest) is.loose

  after-same : (ps : List ℕ) → ArePieces ps → lookup (world_of after) 0 ps ≡ lookup (world_of before) 0 ps
  after-same ps are = vacated-look now after at vacated (pieces rest) is.loose ps are ∙ is.same ps are

  after-child : (k : ℕ) → node_of (child_at after k) ≢ gone → child_at after k ≡ child_at before k
  after-child k there = elim (cases_eq k at) [
    | inl e ↦ absurd (there (ap (λ n. node_of (child_at after n)) e ∙ ap node_of vacated.here))
    | inr apart ↦
        let stays = vacated.elsewhere k apart in
        stays ∙ is.left.children k (λ none. there (ap node_of stays ∙ none))
  ]

  after-left : IsLeft before after
  after-left = record { root = vacated.root ∙ is.left.root; children = after-child }

  cleared : AllLed (freed (world_of now) at) → IsCleared before after
  cleared led = record { is_arena = after-arena; led = subst AllLed (sym after-world) led; same = after-same; left = after-left }

  no-level : (child : Child) → world_of now (suc at) ≡ node_of child → level_of child ≡ None → AllLed (freed (world_of now) at)
  no-level Free e none = absurd (lone-some (world_of now) at (pieces rest) is.loose.lone e)
  no-level (Tail kept) e none = freed-tail (world_of now) at (pieces rest) is.loose (pieces kept.0) kept.1 e
  no-level (Level keys words) e none = absurd (cc)

  -- A tail was the end.
  pub cleared-tail : level_of (child_at now at) ≡ None → IsCleared before after
  cleared-tail none = cleared (no-level (child_at now at) refl none)

  module _ (words : ArrayOf word_order) (stood : level_of (child_at now at) ≡ Some words) where
    level-is : world_of now (suc at) ≡ level words.map
    level-is = stood-level (child_at now at) words stood

    lone-is : (ps : List ℕ) → pieces rest ≡ piece_of rest ∷ ps → NodeLone (level words.map) (piece_of rest) ps (λ found. IsLone (world_of now) found ps)
    lone-is ps e = subst (λ n. NodeLone n (piece_of rest) ps (λ found. IsLone (world_of now) found ps)) level-is (subst (IsLone (world_of now) at) e is.loose.lone)

    -- A level under whose piece the key ends was the end.
    pub cleared-last : length rest < 8 → IsCleared before after
    cleared-last short =
        let lone = lone-is [] (pieces_short rest short) in
        cleared (freed-last (world_of now) at (pieces rest) is.loose words.map level-is (piece_of rest) lone.0 (piece-IsFinal rest is.text short))

    -- It goes on.
    pub clearing-on : 8 ≤ length rest → (next : ℕ) → get words.map (piece_of rest) ≡ Some next → IsClearing before after next (drop 8 rest)
    clearing-on long next entry =
        let h = pieces-head (drop 8 rest) in
        let lone = lone-is (piece_of (drop 8 rest) ∷ h.0) (pieces_long rest long ∙ ap (λ ps. piece_of rest ∷ ps) h.1) in
        let on : IsLone (world_of now) next (piece_of (drop 8 rest) ∷ h.0) = subst (λ o. EntryLone o (piece_of (drop 8 rest) ∷ h.0)
        (λ found. IsLone (world_of now) found (piece_of (drop 8 rest) ∷ h.0))) entry lone.1 in
        let text = text-drop 8 rest is.text in
        record {
          is_arena = after-arena;
          text = text;
          loose =
              subst (λ w. IsOrphan w next (pieces (drop 8 rest))) (sym after-world) (freed-on (world_of now) at (pieces rest) is.loose words.map level-is
              (piece_of rest) lone.0 next (pieces (drop 8 rest)) entry (piece-IsInner rest is.text long) (pieces_are (drop 8 rest) text) (subst (IsLone (world_of now) next) (sym h.1) on));
          same = after-same;
          left = after-left;
        }

    pub clearing-some : 8 ≤ length rest → get words.map (piece_of rest) ≡ None → ⊥
    clearing-some long none =
        let lone = lone-is (pieces (drop 8 rest)) (pieces_long rest long) in
        subst (λ o. EntryLone o (pieces (drop 8 rest)) (λ found. IsLone (world_of now) found (pieces (drop 8 rest)))) none lone.1

-- ---- an entry is taken out

text-without : (child : Child) (piece : ℕ) → HasText child → HasText (child_without child piece)
text-without Free piece has = has
text-without (Tail rest) piece has = has
text-without (Level keys words) piece has = has

node-without : (child : Child) (piece : ℕ) (map : FinMap word_order ℕ) → node_of child ≡ level map → node_of (child_without child piece) ≡ level (remove map piece)
node-without Free piece map e = cc
node-without (Tail rest) piece map e = cc
node-without (Level keys words) piece map e = let same : words.map ≡ map = cc in ap (λ (m : FinMap word_order ℕ). level (remove m piece)) same

-- What is put in the place of a level is a level.
level-without : (child : Child) (piece : ℕ) → IsLevelChild child → IsLevelChild (child_without child piece)
level-without Free piece is = is
level-without (Tail rest) piece is = is
level-without (Level keys words) piece is = is

pub can-without : (arena : Arena) (at piece : ℕ) → IsLevelChild (child_at arena at) → CanHold arena at (child_without (child_at arena at) piece)
can-without arena at piece is = holds-level arena at (child_without (child_at arena at) piece) (level-without (child_at arena at) piece is) is

module _ (arena : Arena) (map : FinMap word_order ℕ) where
  can-at : (at piece : ℕ) → world_of arena (suc at) ≡ level map → CanHold arena at (child_without (child_at arena at) piece)
  can-at at piece is = can-without arena at piece (level-stands arena (Below at piece) map is)

  pub world-without : (place : Place) → world_of arena (seat_of place) ≡ level map → world_of (place_without arena place) ≡
      set_node (world_of arena) (seat_of place) (level (remove map (piece_at place)))
  world-without (Root piece) is =
      let same : arena.root.map ≡ map = cc in
      world-with_root arena (without arena.root piece) ∙ ap (λ (m : FinMap word_order ℕ). set_node (world_of arena) 0 (level (remove m piece))) same
  world-without (Below at piece) is =
      world-with_child arena at (child_without (child_at arena at) piece) (can-at at piece is)
      ∙ ap (set_node (world_of arena) (suc at)) (node-without (child_at arena at) piece map is)

  pub arena-without : (is : IsArena arena) (place : Place) → world_of arena (seat_of place) ≡ level map →
      FitsBehind (world_of arena) is.behind (is.behind (seat_of place)) (remove map (piece_at place)) → IsUsed (seat_of place) (level (remove map (piece_at place))) →
      IsArena (place_without arena place)
  arena-without is (Root piece) e fits used =
      let same : arena.root.map ≡ map = cc in
      arena-with_root arena (without arena.root piece) is (subst (λ (m : FinMap word_order ℕ). FitsBehind (world_of arena) is.behind (is.behind 0) (remove m piece)) (sym same) fits)
  arena-without is (Below at piece) e fits used =
      let node = node-without (child_at arena at) piece map e in
      arena-with_child arena at (child_without (child_at arena at) piece) (can-at at piece e) is (text-without (child_at arena at) piece (is.texts at))
      (subst (NodeFits (world_of arena) is.behind (is.behind (suc at))) (sym node) fits) (subst (IsUsed (suc at)) (sym node) used)

-- ---- the whole

module _ (arena : Arena) (is : IsArena arena) (all : AllLed (world_of arena)) (key : List ℕ) (cut : Cut) (cut_is : IsCutWhere (Unit {0}) (world_of arena) key cut) where
  child-found : (piece : ℕ) (rest : List ℕ) (below : Option ℕ) → IsCutChild (world_of arena) key cut_is.map piece rest below cut.left (Unit {0}) →
      (value : ℕ) × (at_entry (get cut_is.map piece) rest (λ at. lookup (world_of arena) (suc at) rest) ≡ Some value)
  child-found piece rest None is = (
    is.2.0,
    ap (λ ps. at_entry (get cut_is.map piece) ps (λ at. lookup (world_of arena) (suc at) ps)) is.0 ∙ ap (λ o. at_entry o [] (λ at. lookup (world_of arena) (suc at) [])) is.2.1,
  )
  child-found piece rest (Some at) is =
      let are : ArePieces rest = subst ArePieces (sym is.3) (pieces_are (left_of key cut.left) is.2) in
      let found = lone-found (world_of arena) at rest (is.5 tt) are in
      (found.0, ap (λ o. at_entry o rest (λ to. lookup (world_of arena) (suc to) rest)) is.0 ∙ at-some at rest are ∙ found.1)
    where
      at-some : (at : ℕ) (ps : List ℕ) → ArePieces ps → at_entry (Some at) ps (λ to. lookup (world_of arena) (suc to) ps) ≡ lookup (world_of arena) (suc at) ps
      at-some at [] are = absurd are
      at-some at (next ∷ ps) are = refl

  -- The key is there.
  pub cut-found : is_some (lookup (world_of arena) 0 (pieces key)) ≡ true
  cut-found =
      let found = child-found (piece_at cut.place) cut_is.rest cut.below cut_is.child in
      ap (λ (o : Option ℕ). is_some o) (
      ap (lookup (world_of arena) 0) cut_is.leads.parts
      ∙ lookup-walk (world_of arena) 0 cut_is.leads.front (seat_of cut.place) (piece_at cut.place) cut_is.rest cut_is.leads.way
      ∙ lookup-level (world_of arena) (seat_of cut.place) cut_is.map (piece_at cut.place ∷ cut_is.rest) cut_is.is_level
      ∙ found.1
      )

  module _ (after : Arena) (after_is : after ≡ place_without arena cut.place) where
    out-world : world_of after ≡ set_node (world_of arena) (seat_of cut.place) (level (remove cut_is.map (piece_at cut.place)))
    out-world = ap world_of after_is ∙ world-without arena cut_is.map cut.place cut_is.is_level

    out-arena : (value : ℕ) → get cut_is.map (piece_at cut.place) ≡ Some value → IsArena after
    out-arena value there =
        subst IsArena (sym after_is) (arena-without arena cut_is.map is cut.place cut_is.is_level
        (fits-here (world_of arena) is.behind is.is_world all arena.root.map refl key (seat_of cut.place) (piece_at cut.place) cut_is.rest cut_is.leads cut_is.map cut_is.is_level)
        (used-left (world_of arena) is.behind is.is_world all arena.root.map refl key (seat_of cut.place) (piece_at cut.place) cut_is.rest cut_is.leads cut_is.map cut_is.is_level
        (seat_of cut.place) value there cut_is.wide))

    change-is : IsChange (world_of arena) (set_node (world_of arena) (seat_of cut.place) (level (remove cut_is.map (piece_at cut.place))))
        (cut_is.leads.front ++ piece_at cut.place ∷ cut_is.rest) None → IsChange (world_of arena) (world_of after) (pieces key) None
    change-is change =
        subst (λ w. IsChange (world_of arena) w (pieces key) None) (sym out-world) (subst (λ ps. IsChange (world_of arena)
        (set_node (world_of arena) (seat_of cut.place) (level (remove cut_is.map (piece_at cut.place)))) ps None) (sym cut_is.leads.parts) change)

    -- The key ended at the entry.
    pub shrunk-last : cut.below ≡ None → IsShrunk arena after key
    shrunk-last none =
        let child : IsCutChild (world_of arena) key cut_is.map (piece_at cut.place) cut_is.rest None cut.left (Unit {0}) = subst
        (λ b. IsCutChild (world_of arena) key cut_is.map (piece_at cut.place) cut_is.rest b cut.left (Unit {0})) none cut_is.child in
        record {
          is_arena = out-arena child.2.0 child.2.1;
          led =
              subst AllLed (sym out-world) (ends-led (world_of arena) is.behind is.is_world all arena.root.map refl key (seat_of cut.place)
              (piece_at cut.place) cut_is.rest cut_is.leads cut_is.map cut_is.is_level child.1);
          change =
              change-is (ends-change (world_of arena) is.behind is.is_world all arena.root.map refl key (seat_of cut.place)
              (piece_at cut.place) cut_is.rest cut_is.leads cut_is.map cut_is.is_level child.0 child.1);
        }

    -- The key goes on.
    module _ (at : ℕ) (below_is : cut.below ≡ Some at) where
      child-is : IsCutChild (world_of arena) key cut_is.map (piece_at cut.place) cut_is.rest (Some at) cut.left (Unit {0})
      child-is = subst (λ b. IsCutChild (world_of arena) key cut_is.map (piece_at cut.place) cut_is.rest b cut.left (Unit {0})) below_is cut_is.child

      rest-are : ArePieces cut_is.rest
      rest-are = subst ArePieces (sym child-is.3) (pieces_are (left_of key cut.left) child-is.2)

      pub on-arena : IsArena after
      on-arena = out-arena at child-is.0

      pub on-is_orphan : IsOrphan (world_of after) at (pieces (left_of key cut.left))
      on-is_orphan =
          subst (λ w. IsOrphan w at (pieces (left_of key cut.left))) (sym out-world) (subst (IsOrphan
          (set_node (world_of arena) (seat_of cut.place) (level (remove cut_is.map (piece_at cut.place)))) at) child-is.3
          (on-orphan (world_of arena) is.behind is.is_world all arena.root.map refl key (seat_of cut.place)
          (piece_at cut.place) cut_is.rest cut_is.leads cut_is.map cut_is.is_level at child-is.0 child-is.1 rest-are (child-is.5 tt)))

      pub shrunk-on : (done : Arena) → ArePieces (pieces key) → IsCleared after done → IsShrunk arena done key
      shrunk-on done key_are cleared_is =
          let change = change-is (on-change (world_of arena) is.behind is.is_world all arena.root.map refl key (seat_of cut.place)
          (piece_at cut.place) cut_is.rest cut_is.leads cut_is.map cut_is.is_level at child-is.0 child-is.1 rest-are (child-is.5 tt)) in
          record {
            is_arena = cleared_is.is_arena;
            led = cleared_is.led;
            change = record {
              at_key = cleared_is.same (pieces key) key_are ∙ change.at_key;
              elsewhere = λ ps are ne. cleared_is.same ps are ∙ change.elsewhere ps are ne;
            };
          }
