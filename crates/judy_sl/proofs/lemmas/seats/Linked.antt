-- What an edit of an arena makes of its seats.
use Rattle.std.proofs.Common.{◌≡◌, ◌≢◌, ℕ, zero, suc, ◌/◌, ◌%◌, ◌<◌, Bool, cond, get_or, set, Option, None, IsSome, List, [], ◌∷◌, ◌++◌, length, Some, eqb-true, inl, inr, true}
use Rattle.std.proofs.Common.{false, refl, sym, ap, subst, ◌∙◌, arith}
use Rattle.std.proofs.lemmas.Bool.{cases_eq, cases_lt}
use Rattle.std.proofs.lemmas.Option.{none-some}
use Rattle.std.proofs.lemmas.List.{get_or-set_same, get_or-set_other, get_or_past}
use Rattle.std.proofs.lemmas.Cmp.{nat_cmp_total}
use Rattle.std.specs.Ordering.{eq_by_cmp}
use Rattle.std.specs.FinMap.{FinMap, get, insert, empty, get-insert, get-empty, nat_cmp-IsAntisymmetric}
use Rattle.judy_model.specs.Keys.{word_order}
use Rattle.judy_model.specs.Arrays.{ArrayOf}
use Rattle.judy_model.proofs.lemmas.maps.Inserts.{get-insert_itself}
use Rattle.judy_word.specs.Writes.{with_value}
use Rattle.slab.specs.Slab as slab
use Rattle.slab.proofs.SlabLemmas.{Updates-with_value}
use Rattle.judy_sl.specs.LevelLists.{LevelParts}
use Rattle.judy_sl.specs.Children.{Child, Free, Tail, Level, is_level, level_child, tail_child, child_with, IsTaken}
use Rattle.judy_tails.specs.Tails.{TailLists, is_long, tail_at, with_tail}
use Rattle.judy_tails.specs.Short.{ShortLists}
use Rattle.judy_tails.specs.Short as short
use Rattle.judy_tails.specs.Long as long
use Rattle.judy_sl.specs.declared.arena.Arena.{Arena}
use Rattle.judy_sl.specs.declared.arena.Place.{Place}
use Rattle.judy_sl.specs.declared.arena.Place.TheVariants.{Root, Below}
use Rattle.judy_sl.specs.Pieces.{IsFinal, SpellKey}
use Rattle.judy_sl.specs.World.{World, Node, gone, tail, level}
use Rattle.judy_sl.specs.WorldInvariants.{IsWorld, FitsBehind}
use Rattle.judy_sl.specs.Arenas.{world_of, node_of, child_at, IsArena, HasText}
use Rattle.judy_sl.specs.Places.{IsPlace, with_child, place_with}
use Rattle.judy_sl.specs.Ways.{seat_of, piece_at}
use Rattle.judy_sl.proofs.lemmas.pieces.Ways.{equal_lists}
use Rattle.judy_sl.proofs.lemmas.seats.Seats.{set_node, cond-same, cond-other, NodeFits, IsUsed, keeps}

-- ---- entries of a map of words

pub eq_nat-other : (x y : ℕ) → x ≢ y → eq_by_cmp word_order x y ≡ false
eq_nat-other x y apart = elim (eq_by_cmp word_order x y) as (λ b. eq_by_cmp word_order x y ≡ b → b ≡ false) [
  | true ↦ λ e. absurd (apart (nat_cmp-IsAntisymmetric x y (equal_lists (word_order x y) e)))
  | false ↦ λ e. refl
] refl

module _ (map : FinMap word_order ℕ) (key value : ℕ) where
  pub get-insert_here : get (insert map key value) key ≡ Some value
  get-insert_here = get-insert_itself nat_cmp_total map key value

  pub get-insert_off : (other : ℕ) → other ≢ key → get (insert map key value) other ≡ get map other
  get-insert_off other apart = get-insert nat_cmp_total map key value other ∙ ap (λ b. cond b (Some value) (get map other)) (eq_nat-other other key apart)

  pub insert-some : insert map key value ≢ empty
  insert-some e = none-some value (sym (get-empty word_order key) ∙ sym (ap (λ (m : FinMap word_order ℕ). get m key) e) ∙ get-insert_here)

-- ---- one child, or the first level, is another

-- Another tail where one stands.
module _ (all : ShortLists) (at : ℕ) (was rest : List ℕ × ℕ) (there : short.tail_at all at ≡ Some was) where
  abbrev column : List (Option (List ℕ × ℕ))
  column = get_or all.lists (at % 256) []

  in_column : at / 256 < length column
  in_column = elim (cases_lt (at / 256) (length column)) [
    | inl inside ↦ inside
    | inr past ↦ absurd (none-some was (sym (get_or_past column (at / 256) None past) ∙ there))
  ]

  in_lists : at % 256 < length all.lists
  in_lists = elim (cases_lt (at % 256) (length all.lists)) [
    | inl inside ↦ inside
    | inr past ↦ let none : length column ≡ 0 = ap length (get_or_past all.lists (at % 256) [] past) in absurd (omega (arith, in_column))
  ]

  abbrev written : List (Option (List ℕ × ℕ))
  written = set column (at / 256) (Some rest)

  short-same : short.tail_at (short.with_tail all at rest) at ≡ Some rest
  short-same = ap (λ c. get_or c (at / 256) None) (get_or-set_same all.lists (at % 256) written [] in_lists) ∙ get_or-set_same column (at / 256) (Some rest) None in_column

  -- Two places with the same remainder and the same quotient are one.
  short-other : (k : ℕ) → k ≢ at → short.tail_at (short.with_tail all at rest) k ≡ short.tail_at all k
  short-other k apart = elim (cases_eq (k % 256) (at % 256)) [
    | inl e ↦
        ap (λ n. get_or (get_or (set all.lists (at % 256) written) n []) (k / 256) None) e
        ∙ ap (λ c. get_or c (k / 256) None) (get_or-set_same all.lists (at % 256) written [] in_lists)
        ∙ get_or-set_other column (at / 256) (k / 256) (Some rest) None (λ q. apart (omega arith))
        ∙ sym (ap (λ n. get_or (get_or all.lists n []) (k / 256) None) e)
    | inr off ↦ ap (λ c. get_or c (k / 256) None) (get_or-set_other all.lists (at % 256) (k % 256) written [] off)
  ]

module _ (all : TailLists) (at : ℕ) (was rest : List ℕ × ℕ) (there : tail_at all at ≡ Some was) where
  in_long : is_long at ≡ true → at / 256 < length all.long.tails
  in_long is = elim (cases_lt (at / 256) (length all.long.tails)) [
    | inl inside ↦ inside
    | inr past ↦ absurd (none-some was (sym (get_or_past all.long.tails (at / 256) None past) ∙ sym (ap (λ b. cond b (long.tail_at all.long (at / 256)) (short.tail_at all.short at)) is) ∙ there))
  ]

  pub with_tail-same : tail_at (with_tail all at rest) at ≡ Some rest
  with_tail-same = elim (is_long at) as (λ b. is_long at ≡ b →
      cond b (long.tail_at (cond b (record all { long = long.with_tail all.long (at / 256) rest }) (record all { short = short.with_tail all.short at rest })).long (at / 256))
      (short.tail_at (cond b (record all { long = long.with_tail all.long (at / 256) rest }) (record all { short = short.with_tail all.short at rest })).short at) ≡ Some rest) [
        | true ↦ λ is. get_or-set_same all.long.tails (at / 256) (Some rest) None (in_long is)
        | false ↦ λ is. short-same all.short at was rest (sym (ap (λ b. cond b (long.tail_at all.long (at / 256)) (short.tail_at all.short at)) is) ∙ there)
      ] refl

  -- A long one stands in another place of their list.
  long-apart : (k : ℕ) → k ≢ at → is_long k ≡ true → is_long at ≡ true → k / 256 ≢ at / 256
  long-apart k apart one other same =
      let first = eqb-true (k % 256) 254 one in
      let second = eqb-true (at % 256) 254 other in
      apart (omega (arith, first, second, same))

  pub with_tail-other : (k : ℕ) → k ≢ at → tail_at (with_tail all at rest) k ≡ tail_at all k
  with_tail-other k apart = elim (is_long at) as (λ b. is_long at ≡ b →
      tail_at (cond b (record all { long = long.with_tail all.long (at / 256) rest }) (record all { short = short.with_tail all.short at rest })) k ≡ tail_at all k) [
        | true ↦ λ is. elim (is_long k) as (λ b. is_long k ≡ b → cond b (long.tail_at (long.with_tail all.long (at / 256) rest) (k / 256)) (short.tail_at all.short k) ≡
            cond b (long.tail_at all.long (k / 256)) (short.tail_at all.short k)) [
              | true ↦ λ one. get_or-set_other all.long.tails (at / 256) (k / 256) (Some rest) None (long-apart k apart one is)
              | false ↦ λ one. refl
            ] refl
        | false ↦ λ is. ap (λ found. cond (is_long k) (long.tail_at all.long (k / 256)) found)
            (short-other all.short at was rest (sym (ap (λ b. cond b (long.tail_at all.long (at / 256)) (short.tail_at all.short at)) is) ∙ there) k apart)
      ] refl

-- Where a tail stands, the place is one for tails.
pub tail_there : (levels : Bool) (parts : Option LevelParts) (rest : Option (List ℕ × ℕ)) (was : List ℕ × ℕ) → cond levels (level_child parts) (tail_child rest) ≡ Tail was →
    (levels ≡ false) × (rest ≡ Some was)
tail_there true None rest was e = absurd (cc)
tail_there true (Some parts) rest was e = absurd (cc)
tail_there false parts None was e = absurd (cc)
tail_there false parts (Some rest) was e = let same : rest ≡ was = cc in (refl, ap (λ r. Some r) same)

-- Where a level stands, it is one for levels.
pub level_there : (levels : Bool) (parts : Option LevelParts) (rest : Option (List ℕ × ℕ)) (keys : ℕ) (words : ArrayOf word_order) →
    cond levels (level_child parts) (tail_child rest) ≡ Level keys words → (levels ≡ true) × (parts ≡ Some (record { keys = keys; words = words }))
level_there true None rest keys words e = absurd (cc)
level_there true (Some parts) rest keys words e =
    let k : parts.keys ≡ keys = cc in
    let w : parts.words ≡ words = cc in
    (refl, λ i. Some (record { keys = k i; words = w i }))
level_there false parts None keys words e = absurd (cc)
level_there false parts (Some rest) keys words e = absurd (cc)

-- A child of the same kind stands at the place.
abbrev pub CanHold : Arena → ℕ → Child → Type 0
CanHold arena at Free = ⊥
CanHold arena at (Tail rest) = (was : List ℕ × ℕ) × (child_at arena at ≡ Tail was)
CanHold arena at (Level keys words) = (n : ℕ) × (was : ArrayOf word_order) × (child_at arena at ≡ Level n was)

with_child-same : (arena : Arena) (at : ℕ) (child : Child) → CanHold arena at child → child_at (with_child arena at child) at ≡ child
with_child-same arena at Free can = absurd can
with_child-same arena at (Tail rest) can =
    let there = tail_there (is_level at) (slab.get arena.levels (at / 256)) (tail_at arena.tails at) can.0 can.1 in
    ap (λ b. cond b (level_child (slab.get arena.levels (at / 256))) (tail_child (tail_at (with_tail arena.tails at rest) at))) there.0
    ∙ ap tail_child (with_tail-same arena.tails at can.0 rest there.1)
with_child-same arena at (Level keys words) can =
    let there = level_there (is_level at) (slab.get arena.levels (at / 256)) (tail_at arena.tails at) can.0 can.1 can.2 in
    let parts : LevelParts = record { keys = keys; words = words } in
    let has : slab.ContainsKey arena.levels (at / 256) = subst IsSome (sym there.1) refl in
    ap (λ b. cond b (level_child (slab.get (slab.with_value arena.levels (at / 256) parts) (at / 256))) (tail_child (tail_at arena.tails at))) there.0
    ∙ ap level_child (Updates-with_value arena.levels (at / 256) parts has).changed

with_child-other : (arena : Arena) (at : ℕ) (child : Child) → CanHold arena at child → (k : ℕ) → k ≢ at → child_at (with_child arena at child) k ≡ child_at arena k
with_child-other arena at Free can k apart = absurd can
with_child-other arena at (Tail rest) can k apart =
    let there = tail_there (is_level at) (slab.get arena.levels (at / 256)) (tail_at arena.tails at) can.0 can.1 in
    ap (λ t. cond (is_level k) (level_child (slab.get arena.levels (k / 256))) (tail_child t)) (with_tail-other arena.tails at can.0 rest there.1 k apart)
with_child-other arena at (Level keys words) can k apart =
    let there = level_there (is_level at) (slab.get arena.levels (at / 256)) (tail_at arena.tails at) can.0 can.1 can.2 in
    let parts : LevelParts = record { keys = keys; words = words } in
    let has : slab.ContainsKey arena.levels (at / 256) = subst IsSome (sym there.1) refl in
    level-other (is_level k) refl (Updates-with_value arena.levels (at / 256) parts has) there.0
  where
    level-other : (b : Bool) → is_level k ≡ b → {after : slab.Slab LevelParts} {parts : Option LevelParts} → slab.Updates arena.levels after (at / 256) parts → is_level at ≡ true →
        cond b (level_child (slab.get after (k / 256))) (tail_child (tail_at arena.tails k)) ≡ cond b (level_child (slab.get arena.levels (k / 256))) (tail_child (tail_at arena.tails k))
    level-other true one updates two =
        let a = eqb-true (k % 256) 255 one in
        let b = eqb-true (at % 256) 255 two in
        ap level_child (updates.others (k / 256) (λ q. apart (omega arith)))
    level-other false one updates two = refl

-- The first level stays.
pub root-with_child : (arena : Arena) (at : ℕ) (child : Child) → (with_child arena at child).root ≡ arena.root
root-with_child arena at Free = refl
root-with_child arena at (Tail rest) = refl
root-with_child arena at (Level keys words) = refl

module _ (arena : Arena) (at : ℕ) (child : Child) (can : CanHold arena at child) where
  pub child_at-same : (k : ℕ) → k ≡ at → child_at (with_child arena at child) k ≡ child
  child_at-same k e = ap (λ n. child_at (with_child arena at child) n) e ∙ with_child-same arena at child can

  pub child_at-other : (k : ℕ) → k ≢ at → child_at (with_child arena at child) k ≡ child_at arena k
  child_at-other k apart = with_child-other arena at child can k apart

  world-with_child-at : (seat : ℕ) → world_of (with_child arena at child) seat ≡ set_node (world_of arena) (suc at) (node_of child) seat
  world-with_child-at zero = ap (λ (words : ArrayOf word_order). level words.map) (root-with_child arena at child) ∙ sym (cond-other (world_of arena) (suc at) (node_of child) 0 (λ e. omega arith))
  world-with_child-at (suc k) = elim (cases_eq k at) [
    | inl e ↦ ap node_of (child_at-same k e) ∙ sym (cond-same (world_of arena) (suc at) (node_of child) (suc k) (ap (λ n. suc n) e))
    | inr apart ↦ ap node_of (child_at-other k apart) ∙ sym (cond-other (world_of arena) (suc at) (node_of child) (suc k) (λ e. apart (omega arith)))
  ]

  pub world-with_child : world_of (with_child arena at child) ≡ set_node (world_of arena) (suc at) (node_of child)
  world-with_child = λ i seat. world-with_child-at seat i

  -- A child that fits is taken.
  pub arena-with_child : (is : IsArena arena) → HasText child → NodeFits (world_of arena) is.behind (is.behind (suc at)) (node_of child) → IsUsed (suc at) (node_of child) →
      IsArena (with_child arena at child)
  arena-with_child is text fits used = record {
    behind = is.behind;
    is_world = subst (λ w. IsWorld w is.behind) (sym world-with_child) (keeps (world_of arena) is.behind is.is_world (suc at) (node_of child) fits used);
    texts = λ k. elim (cases_eq k at) [
      | inl e ↦ subst HasText (sym (child_at-same k e)) text
      | inr apart ↦ subst HasText (sym (child_at-other k apart)) (is.texts k)
    ];
  }

module _ (arena : Arena) (words : ArrayOf word_order) where
  world-with_root-at : (seat : ℕ) → world_of (record arena { root = words }) seat ≡ set_node (world_of arena) 0 (level words.map) seat
  world-with_root-at zero = refl
  world-with_root-at (suc k) = sym (cond-other (world_of arena) 0 (level words.map) (suc k) (λ e. omega arith))

  pub world-with_root : world_of (record arena { root = words }) ≡ set_node (world_of arena) 0 (level words.map)
  world-with_root = λ i seat. world-with_root-at seat i

  pub arena-with_root : (is : IsArena arena) → FitsBehind (world_of arena) is.behind (is.behind 0) words.map → IsArena (record arena { root = words })
  arena-with_root is fits = record {
    behind = is.behind;
    is_world = subst (λ w. IsWorld w is.behind) (sym world-with_root) (keeps (world_of arena) is.behind is.is_world 0 (level words.map) fits tt);
    texts = is.texts;
  }

-- ---- a value is written

-- The node with a value written at a piece.
abbrev pub node_with : Node → ℕ → ℕ → Node
node_with gone piece value = gone
node_with (tail held was) piece value = tail held value
node_with (level map) piece value = level (insert map piece value)

node_of-with : (child : Child) (piece value : ℕ) → node_of (child_with child piece value) ≡ node_with (node_of child) piece value
node_of-with Free piece value = refl
node_of-with (Tail rest) piece value = refl
node_of-with (Level keys words) piece value = refl

pub text-with : (child : Child) (piece value : ℕ) → HasText child → HasText (child_with child piece value)
text-with Free piece value has = has
text-with (Tail rest) piece value has = has
text-with (Level keys words) piece value has = has

-- What may be put in the place of a child.
pub can-with : (arena : Arena) (at piece value : ℕ) → IsTaken (child_at arena at) → CanHold arena at (child_with (child_at arena at) piece value)
can-with arena at piece value taken = by_child (child_at arena at) refl taken
  where
    by_child : (child : Child) → child_at arena at ≡ child → IsTaken child → CanHold arena at (child_with child piece value)
    by_child Free e is = absurd is
    by_child (Tail rest) e is = (rest, e)
    by_child (Level keys words) e is = (keys, words, e)

-- Something stands there where the seat has something, and only there.
taken_by : (child : Child) → node_of child ≢ gone → IsTaken child
taken_by Free some = absurd (some refl)
taken_by (Tail rest) some = tt
taken_by (Level keys words) some = tt

pub taken_of : (arena : Arena) (at : ℕ) → world_of arena (suc at) ≢ gone → IsTaken (child_at arena at)
taken_of arena at some = taken_by (child_at arena at) some

pub world-with_place : (arena : Arena) (place : Place) (value : ℕ) → IsPlace arena place → world_of (place_with arena place value) ≡
    set_node (world_of arena) (seat_of place) (node_with (world_of arena (seat_of place)) (piece_at place) value)
world-with_place arena (Root piece) value inside = world-with_root arena (with_value arena.root piece value)
world-with_place arena (Below at piece) value is =
    world-with_child arena at (child_with (child_at arena at) piece value) (can-with arena at piece value is)
    ∙ ap (set_node (world_of arena) (suc at)) (node_of-with (child_at arena at) piece value)

-- A node that fits stays so under another value of a key.
module _ (world : World) (behind : ℕ → List ℕ) (place : List ℕ) (map : FinMap word_order ℕ) (fits : FitsBehind world behind place map) (piece value : ℕ)
    (final : IsFinal piece) (spells : SpellKey (place ++ piece ∷ [])) where
  pub fits-insert : FitsBehind world behind place (insert map piece value)
  fits-insert = record {
    leads = λ p found entry inner. fits.leads p found (sym (get-insert_off map piece value p (λ e. inner (subst IsFinal (sym e) final))) ∙ entry) inner;
    ends = λ p v entry last. elim (cases_eq p piece) [
      | inl e ↦ subst (λ q. SpellKey (place ++ q ∷ [])) (sym e) spells
      | inr apart ↦ fits.ends p v (sym (get-insert_off map piece value p apart) ∙ entry) last
    ];
    short = fits.short;
  }

pub place-with_arena : (arena : Arena) (is : IsArena arena) (place : Place) (value : ℕ) → IsPlace arena place →
    NodeFits (world_of arena) is.behind (is.behind (seat_of place)) (node_with (world_of arena (seat_of place)) (piece_at place) value) →
    IsUsed (seat_of place) (node_with (world_of arena (seat_of place)) (piece_at place) value) → IsArena (place_with arena place value)
place-with_arena arena is (Root piece) value inside fits used = arena-with_root arena (with_value arena.root piece value) is fits
place-with_arena arena is (Below at piece) value taken fits used =
    arena-with_child arena at (child_with (child_at arena at) piece value) (can-with arena at piece value taken) is (text-with (child_at arena at) piece value (is.texts at))
    (subst (NodeFits (world_of arena) is.behind (is.behind (suc at))) (sym (node_of-with (child_at arena at) piece value)) fits)
    (subst (IsUsed (suc at)) (sym (node_of-with (child_at arena at) piece value)) used)

-- The bytes of tails stay.
module _ (arena : Arena) (value : ℕ) where
  pub texts-place : (place : Place) → IsPlace arena place → ((k : ℕ) → HasText (child_at arena k)) → (k : ℕ) → HasText (child_at (place_with arena place value) k)
  texts-place (Root piece) inside texts k = texts k
  texts-place (Below at piece) taken texts k = elim (cases_eq k at) [
    | inl e ↦ subst HasText (sym (child_at-same arena at (child_with (child_at arena at) piece value) (can-with arena at piece value taken) k e)) (text-with (child_at arena at) piece value (texts at))
    | inr apart ↦ subst HasText (sym (child_at-other arena at (child_with (child_at arena at) piece value) (can-with arena at piece value taken) k apart)) (texts k)
  ]
