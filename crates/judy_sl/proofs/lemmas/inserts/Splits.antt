-- A key that is added where another's tail stood.
use Rattle.std.proofs.Common.{◌≡◌, ℕ, suc, ◌-◌, ◌≤◌, List, ◌++◌, length, drop, take, None, Some, IsSome, refl, sym, ap, subst, ◌∙◌, arith}
use Rattle.std.proofs.lemmas.Option.{none-some}
use Rattle.std.proofs.lemmas.List.{take_rest, length-drop}
use Rattle.std.specs.FinMap.{FinMap, get}
use Rattle.judy_model.specs.Keys.{word_order}
use Rattle.judy_sl.specs.Children.{Child, Free, Tail, Level, value_at, IsTaken}
use Rattle.judy_sl.specs.declared.arena.Arena.{Arena}
use Rattle.judy_sl.specs.declared.arena.Place.{Place}
use Rattle.judy_sl.specs.declared.arena.Place.TheVariants.{Root, Below}
use Rattle.judy_sl.specs.declared.branches.Branch.{Branch}
use Rattle.judy_sl.specs.Pieces.{pieces, SpellKey}
use Rattle.judy_sl.specs.World.{World, gone, tail, level, lookup}
use Rattle.judy_sl.specs.WorldInvariants.{AllLed}
use Rattle.judy_sl.specs.Arenas.{world_of, node_of, child_at, IsArena, HasText}
use Rattle.judy_sl.specs.Places.{place_value}
use Rattle.judy_sl.specs.Ways.{IsFound, IsGap, IsClash, seat_of, piece_at, left_of, levels_passed}
use Rattle.judy_sl.specs.Counted.{AreCounted, AreCountedBut}
use Rattle.judy_sl.specs.Branches.{IsBuilt}
use Rattle.judy_sl.specs.Grown.{IsChange, IsAdded, IsSame, IsSound, AreHung, IsGraft, IsGrafted}
use Rattle.judy_sl.proofs.lemmas.pieces.PieceLemmas.{text_of_key, pieces_same}
use Rattle.judy_sl.proofs.lemmas.inserts.Written.{behind-leads}
use Rattle.judy_sl.proofs.lemmas.seats.Linked.{taken_of}
use Rattle.judy_sl.proofs.lemmas.inserts.Filled.{world-same, arena-same}
use Rattle.judy_sl.proofs.lemmas.counts.Growing.{led-same, counted-same}
use Rattle.judy_sl.proofs.lemmas.seats.Keeping.{gap-none, clash-none}
use Rattle.judy_sl.proofs.lemmas.counts.KeysBehind.{rest-key}
use Rattle.judy_sl.proofs.lemmas.inserts.Hangs.{StandsStill, stands-same, stands-both, stands-taken, stands-value}
use Rattle.judy_sl.proofs.lemmas.inserts.Grafted.{sound-built}
use Rattle.judy_model.specs.declared.keys.TheConstants.{LONGEST_STRING}
use Rattle.judy_sl.specs.Strings.{IsString}

-- ---- the tail to which the way comes

module _ (arena : Arena) (key : List ℕ) (from : Place) (at left : ℕ) (clash : IsClash (world_of arena) key from at left) where
  clash-taken : IsTaken (child_at arena at)
  clash-taken = taken_of arena at (λ none. let g : tail clash.held clash.value ≡ gone = sym clash.is_tail ∙ none in cc)

  child-entry : (child : Child) (map : FinMap word_order ℕ) (piece : ℕ) → node_of child ≡ level map → get map piece ≡ Some at → IsSome (value_at child piece)
  child-entry Free map piece e entry = absurd (cc)
  child-entry (Tail rest) map piece e entry = absurd (cc)
  child-entry (Level keys words) map piece e entry =
      let same : words.map ≡ map = cc in
      subst IsSome (sym (ap (λ (m : FinMap word_order ℕ). get m piece) same ∙ entry)) refl

  place-entry : (place : Place) → world_of arena (seat_of place) ≡ level clash.map → get clash.map (piece_at place) ≡ Some at → IsSome (place_value arena place)
  place-entry (Root piece) e entry =
      let same : arena.root.map ≡ clash.map = cc in
      subst IsSome (sym (ap (λ (m : FinMap word_order ℕ). get m piece) same ∙ entry)) refl
  place-entry (Below to piece) e entry = child-entry (child_at arena to) clash.map piece e entry

  -- An entry leads to it,
  clash-entry : IsSome (place_value arena from)
  clash-entry = place-entry from clash.is_level clash.entry

  -- which both stand still while the branch is hung up,
  module _ (reserved hung : Arena) (same : IsSame arena reserved) (made linked : Branch) (hung_up : AreHung reserved hung made linked) where
    stands : StandsStill arena hung
    stands = stands-both arena reserved hung made linked (stands-same arena reserved same) hung_up

    pub hung-taken : IsTaken (child_at hung at)
    hung-taken = stands-taken arena hung at stands clash-taken

    pub hung-entry : IsSome (place_value hung from)
    hung-entry = stands-value arena hung from stands clash-entry

  tail-child : (child : Child) → node_of child ≡ tail clash.held clash.value → (rest : List ℕ × ℕ) × (child ≡ Tail rest)
  tail-child Free e = absurd (cc)
  tail-child (Tail rest) e = (rest, refl)
  tail-child (Level keys words) e = absurd (cc)

  module _ (is : IsArena arena) where
    -- and its bytes are the rest of a key, so they aren't too many.
    tail-short : (rest : List ℕ × ℕ) → child_at arena at ≡ Tail rest → length rest.0 ≤ LONGEST_STRING
    tail-short rest e =
        let spells = is.is_world.tails (suc at) (pieces rest.0) rest.1 (ap node_of e) in
        let more : SpellKey (pieces rest.0) = rest-key clash.leads.front (pieces rest.0) spells.key clash.leads.inner spells.is_key
        (spells.spells ∙ ap (λ f. f ++ pieces rest.0) (behind-leads (world_of arena) is.behind is.is_world key (suc at) (pieces (left_of key left)) clash.leads)) in
        let same : more.key ≡ rest.0 = pieces_same more.key rest.0 (text_of_key more.key more.is_key) (subst HasText e (is.texts at)) more.spells in
        subst (λ (bytes : List ℕ). length bytes ≤ LONGEST_STRING) same more.is_key.is_bytes_key.within_limit

    pub clash-tail : (rest : List ℕ × ℕ) × (child_at arena at ≡ Tail rest) × (length rest.0 ≤ LONGEST_STRING)
    clash-tail =
        let there = tail-child (child_at arena at) clash.is_tail in
        (there.0, there.1, tail-short there.0 there.1)

-- ---- the branch that takes its place

module _ (arena : Arena) (is : IsArena arena) (led : AllLed (world_of arena)) (counted : AreCounted arena) (key : List ℕ) (is_key : IsString key) (from : Place)
    (at left : ℕ) (clash : IsClash (world_of arena) key from at left) (items bytes : List ℕ) (value : ℕ) (read : child_at arena at ≡ Tail ((items, value)))
    (same_bytes : bytes ≡ items) (made : Branch) (built : IsBuilt bytes value (take (length key - (length key - left)) (drop (length key - left) key)) made) where
  there-read : child_at arena at ≡ Tail ((bytes, value))
  there-read = read ∙ ap (λ (b : List ℕ). Tail ((b, value))) (sym same_bytes)

  built-left : IsBuilt bytes value (left_of key left) made
  built-left = subst (λ k. IsBuilt bytes value k made) (take_rest key (length key - left)) built

  pub split-sound : IsSound made
  split-sound =
      let l = length-drop (length key - left) key in
      let w = is_key.is_bytes_key.within_limit in
      sound-built bytes value (left_of key left) made built-left (tail-short arena key from at left clash is (bytes, value) there-read) (omega (arith, l, w))

  module _ (reserved : Arena) (same : IsSame arena reserved) where
    there : IsClash (world_of reserved) key from at left
    there = subst (λ w. IsClash w key from at left) (sym (world-same arena reserved same)) clash

    pub split-graft : IsGraft reserved key from at left made
    split-graft =
        let node : tail there.held there.value ≡ tail (pieces bytes) value = sym there.is_tail ∙ ap (λ (w : World). w (suc at)) (world-same arena reserved same) ∙ ap node_of there-read in
        let value_is : value ≡ there.value = cc in
        record {
          is_arena = arena-same arena reserved same is;
          led = led-same arena reserved same led;
          counted = counted-same arena reserved same counted;
          is_key = is_key;
          clash = there;
          bytes = bytes;
          held_is = (cc);
          built = subst (λ v. IsBuilt bytes v (left_of key left) made) value_is built-left;
        }

-- ---- the key is there

module _ (arena reserved after : Arena) (key : List ℕ) (same : IsSame arena reserved) {left top : ℕ} (grafted : IsGrafted reserved after key left top) where
  split-some : lookup (world_of after) 0 (pieces key) ≡ None → ⊥
  split-some none = none-some 0 (sym none ∙ grafted.change.at_key)

  pub split-gap : (place : Place) (left : ℕ) → IsGap (world_of after) key place left → ⊥
  split-gap place left gap = split-some (gap-none (world_of after) key place left gap)

  pub split-clash : (from : Place) (at left : ℕ) → IsClash (world_of after) key from at left → ⊥
  split-clash from at left clash = split-some (clash-none (world_of after) key from at left clash)

  pub split-added : (place : Place) → IsFound (world_of after) key place → IsAdded arena after key place
  split-added place found = record {
    is_arena = grafted.is_arena;
    led = λ all. grafted.led;
    change = subst (λ w. IsChange w (world_of after) (pieces key) (Some 0)) (world-same arena reserved same) grafted.change;
    found = found;
  }

  pub split-counted : AreCountedBut after (levels_passed (world_of arena) key)
  split-counted = subst (λ w. AreCountedBut after (levels_passed w key)) (world-same arena reserved same) grafted.counted
