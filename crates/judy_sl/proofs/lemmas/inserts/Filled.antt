-- A key that is added where a level has no entry for it.
use Rattle.std.proofs.Common.{◌≡◌, ◌≢◌, ℕ, zero, suc, ◌<◌, ◌-◌, List, [], ◌∷◌, ◌++◌, length, Some, refl, sym, ap, subst, ◌∙◌, arith}
use Rattle.std.proofs.lemmas.List.{length-drop}
use Rattle.std.specs.FinMap.{FinMap, insert}
use Rattle.judy_model.specs.Keys.{word_order}
use Rattle.judy_model.specs.Arrays.{ArrayOf}
use Rattle.judy_sl.specs.Children.{Child, Free, Tail, Level}
use Rattle.judy_sl.specs.declared.arena.Arena.{Arena}
use Rattle.judy_sl.specs.declared.arena.Place.{Place}
use Rattle.judy_sl.specs.declared.arena.Place.TheVariants.{Root, Below}
use Rattle.judy_sl.specs.Pieces.{pieces, IsFinal, SpellKey}
use Rattle.judy_sl.specs.World.{World, Node, gone, level}
use Rattle.judy_sl.specs.WorldInvariants.{IsWorld, AllLed}
use Rattle.judy_sl.specs.Arenas.{world_of, node_of, child_at, IsArena, HasText}
use Rattle.judy_sl.specs.Children.{IsTaken, IsLevelChild}
use Rattle.judy_sl.specs.Places.{IsPlace, IsLevelPlace, place_with}
use Rattle.judy_sl.specs.Ways.{seat_of, piece_at, IsGap, HasValue, left_of}
use Rattle.judy_sl.specs.Grown.{IsChange, IsAdded, IsSame}
use Rattle.judy_sl.proofs.lemmas.pieces.PieceLemmas.{piece-IsFinal}
use Rattle.judy_sl.proofs.lemmas.pieces.Ways.{pieces_short}
use Rattle.judy_sl.proofs.lemmas.seats.Changes.{way-stays}
use Rattle.judy_sl.proofs.lemmas.seats.Seats.{set_node, cond-same, NodeFits, IsUsed}
use Rattle.judy_sl.proofs.lemmas.seats.Entries.{changes_value}
use Rattle.judy_sl.proofs.lemmas.inserts.Written.{behind-leads, apart-leads}
use Rattle.judy_sl.proofs.lemmas.seats.Led.{KeepsEntries, keeps-insert, led-set}
use Rattle.judy_sl.proofs.lemmas.seats.Linked.{node_with, world-with_place, place-with_arena, fits-insert, insert-some, get-insert_here, get-insert_off}
use Rattle.judy_sl.specs.Strings.{IsString}

-- ---- nothing has changed

module _ (before after : Arena) (same : IsSame before after) where
  pub child-same : (at : ℕ) → child_at after at ≡ child_at before at
  child-same = same.children

  world-same-at : (seat : ℕ) → world_of after seat ≡ world_of before seat
  world-same-at zero = ap (λ (words : ArrayOf word_order). level words.map) same.root
  world-same-at (suc at) = ap node_of (child-same at)

  pub world-same : world_of after ≡ world_of before
  world-same = λ i seat. world-same-at seat i

  pub arena-same : IsArena before → IsArena after
  arena-same is = record {
    behind = is.behind;
    is_world = subst (λ w. IsWorld w is.behind) (sym world-same) is.is_world;
    texts = λ at. subst HasText (sym (child-same at)) (is.texts at);
  }

-- ---- a place of a level

taken-level : (child : Child) (map : FinMap word_order ℕ) → node_of child ≡ level map → IsTaken child
taken-level Free map e = absurd (cc)
taken-level (Tail rest) map e = tt
taken-level (Level keys words) map e = tt

pub level-place : (arena : Arena) (place : Place) (map : FinMap word_order ℕ) → world_of arena (seat_of place) ≡ level map → IsPlace arena place
level-place arena (Root piece) map e = tt
level-place arena (Below at piece) map e = taken-level (child_at arena at) map e

-- A level is there.
pub level-there : (child : Child) → IsLevelChild child → node_of child ≡ gone → ⊥
level-there Free is none = is
level-there (Tail rest) is none = is
level-there (Level keys words) is none = cc

pub level-child : (child : Child) (map : FinMap word_order ℕ) → node_of child ≡ level map → IsLevelChild child
level-child Free map e = absurd (cc)
level-child (Tail rest) map e = absurd (cc)
level-child (Level keys words) map e = tt

pub level-stands : (arena : Arena) (place : Place) (map : FinMap word_order ℕ) → world_of arena (seat_of place) ≡ level map → IsLevelPlace arena place
level-stands arena (Root piece) map e = tt
level-stands arena (Below at piece) map e = level-child (child_at arena at) map e

-- ---- the last piece

module _ (arena : Arena) (is : IsArena arena) (key : List ℕ) (is_key : IsString key) (place : Place) (left : ℕ) (gap : IsGap (world_of arena) key place left) (short : left < 8) where
  abbrev rest_of : List ℕ
  rest_of = left_of key left

  short-rest : length rest_of < 8
  short-rest = let k = length-drop (length key - left) key in omega (arith, k, gap.within)

  parts : pieces key ≡ gap.leads.front ++ piece_at place ∷ []
  parts = gap.leads.parts ∙ ap (λ ps. gap.leads.front ++ ps) (pieces_short rest_of short-rest ∙ ap (λ p. p ∷ []) (sym gap.next))

  final : IsFinal (piece_at place)
  final = subst IsFinal (sym gap.next) (piece-IsFinal rest_of gap.text short-rest)

  spells : SpellKey (is.behind (seat_of place) ++ piece_at place ∷ [])
  spells = record {
    key = key;
    is_key = is_key;
    spells = parts ∙ ap (λ f. f ++ piece_at place ∷ []) (sym (behind-leads (world_of arena) is.behind is.is_world key (seat_of place) (pieces rest_of) gap.leads));
  }

  abbrev node_in : Node
  node_in = node_with (world_of arena (seat_of place)) (piece_at place) 0

  node-is : node_in ≡ level (insert gap.map (piece_at place) 0)
  node-is = ap (λ n. node_with n (piece_at place) 0) gap.is_level

  is-used : (seat : ℕ) → IsUsed seat (level (insert gap.map (piece_at place) 0))
  is-used zero = tt
  is-used (suc at) = insert-some gap.map (piece_at place) 0

  world-is : world_of (place_with arena place 0) ≡ set_node (world_of arena) (seat_of place) node_in
  world-is = world-with_place arena place 0 (level-place arena place gap.map gap.is_level)

  after-seat : world_of (place_with arena place 0) (seat_of place) ≡ level (insert gap.map (piece_at place) 0)
  after-seat = ap (λ (w : World). w (seat_of place)) world-is ∙ cond-same (world_of arena) (seat_of place) node_in (seat_of place) refl ∙ node-is

  apart-after : (at : ℕ) → world_of arena at ≢ gone → is.behind at ≢ gap.leads.front → world_of (place_with arena place 0) at ≡ world_of arena at
  apart-after at some off = ap (λ (w : World). w at) world-is ∙ apart-leads (world_of arena) is.behind is.is_world key (seat_of place) (pieces rest_of) gap.leads node_in at some off

  pub fills-last : IsAdded arena (place_with arena place 0) key place
  fills-last = record {
    is_arena = place-with_arena arena is place 0 (level-place arena place gap.map gap.is_level)
        (subst (NodeFits (world_of arena) is.behind (is.behind (seat_of place))) (sym node-is) (fits-insert (world_of arena) is.behind (is.behind (seat_of place)) gap.map
        (is.is_world.levels (seat_of place) gap.map gap.is_level) (piece_at place) 0 final spells))
        (subst (IsUsed (seat_of place)) (sym node-is) (is-used (seat_of place)));
    led = λ all.
        let keeps : KeepsEntries (world_of arena (seat_of place)) node_in = subst (λ n. KeepsEntries n (node_with n (piece_at place) 0)) (sym gap.is_level)
        (keeps-insert gap.map (piece_at place) 0 (λ at inner entry. inner final)) in
        subst AllLed (sym world-is) (led-set (world_of arena) (seat_of place) node_in keeps (λ none. let g : gone ≡ level gap.map = sym none ∙ gap.is_level in cc) all);
    change = subst (λ ps. IsChange (world_of arena) (world_of (place_with arena place 0)) ps (Some 0)) (sym parts) (
        changes_value (world_of arena) (world_of (place_with arena place 0)) is.behind is.is_world arena.root.map refl gap.leads.front gap.leads.inner
        (seat_of place) gap.leads.way apart-after (behind-leads (world_of arena) is.behind is.is_world key (seat_of place) (pieces rest_of) gap.leads) gap.map
        (insert gap.map (piece_at place) 0) gap.is_level after-seat (piece_at place) (λ p off. get-insert_off gap.map (piece_at place) 0 p off) (Some 0) final
        (get-insert_here gap.map (piece_at place) 0)
        );
    found = record {
      rest = piece_at place ∷ [];
      leads = record {
        front = gap.leads.front;
        inner = gap.leads.inner;
        way = way-stays (world_of arena) (world_of (place_with arena place 0)) is.behind is.is_world arena.root.map refl gap.leads.front gap.leads.inner (seat_of place) gap.leads.way apart-after;
        parts = parts;
      };
      value = 0;
      has = subst (λ n. HasValue n (piece_at place) (piece_at place ∷ []) 0) (sym after-seat) (refl, final, get-insert_here gap.map (piece_at place) 0);
    };
  }
