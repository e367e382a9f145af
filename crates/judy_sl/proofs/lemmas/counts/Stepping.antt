-- The numbers of the levels at some places, stepped one after the other.
use Rattle.std.proofs.Common.{◌≡◌, ◌≢◌, ℕ, suc, ◌≤◌, Bool, true, false, List, [], ◌∷◌, take, Some, is_some, inl, inr, refl, sym, ap, subst, ◌∙◌, arith, ⊎_elim, ◌⊎◌}
use Rattle.std.proofs.lemmas.Bool.{cases_eq}
use Rattle.std.specs.FinMap.{len}
use Rattle.judy_sl.specs.Children.{Child, Free, Tail, Level, IsLevelChild}
use Rattle.judy_sl.specs.declared.arena.Arena.{Arena}
use Rattle.judy_sl.specs.Pieces.{pieces, AreInner}
use Rattle.judy_sl.specs.World.{World, Node, lookup, walk}
use Rattle.judy_sl.specs.WorldInvariants.{IsWorld, AllLed}
use Rattle.judy_sl.specs.Arenas.{world_of, node_of, child_at, map_of, HasText, IsArena}
use Rattle.judy_sl.specs.Places.{with_child}
use Rattle.judy_sl.specs.Ways.{levels_passed}
use Rattle.judy_sl.specs.Counted.{keys_behind, LevelTells, Same, OneLess, AreCounted, IsAmong, AreOnce, AreCountedBut, CanStepAt, AreStepped}
use Rattle.judy_sl.specs.Stepped.{child_stepped, ChildCanStep}
use Rattle.judy_sl.proofs.lemmas.pieces.Ways.{step-parts}
use Rattle.judy_sl.proofs.lemmas.seats.Seats.{set_node, cond-same, cond-other}
use Rattle.judy_sl.proofs.lemmas.seats.Linked.{CanHold, child_at-same, child_at-other, world-with_child}
use Rattle.judy_sl.proofs.lemmas.seats.PlaceKinds.{holds-level}
use Rattle.judy_sl.proofs.lemmas.inserts.Filled.{level-there, level-child}
use Rattle.judy_sl.proofs.lemmas.counts.KeysFewer.{fewer-behind}
use Rattle.judy_sl.proofs.lemmas.counts.KeptLevels.{all-reached}
use Rattle.judy_sl.proofs.lemmas.counts.KeysBehind.{keys-reached, keys-some}
use Rattle.judy_sl.proofs.lemmas.counts.PassedLevels.{IsPassed, among-front, once-front, once-passed, among-way}
use Rattle.judy_sl.specs.Strings.{IsString}

-- ---- a number is stepped

-- What tells one less is right once one more comes,
come-tells : (child : Child) (keys : ℕ) → LevelTells OneLess child keys → LevelTells Same (child_stepped true child) keys
come-tells Free keys tells = tt
come-tells (Tail rest) keys tells = tt
come-tells (Level told words) keys tells = (let off : suc told ≡ keys = tells in omega (arith, off))

can-come_at : (child : Child) (keys : ℕ) → LevelTells OneLess child keys → keys ≤ 4294967295 → ChildCanStep true child
can-come_at Free keys tells few = tt
can-come_at (Tail rest) keys tells few = tt
can-come_at (Level told words) keys tells few = (let off : suc told ≡ keys = tells in omega (arith, off, few))

-- and what is right tells one less once one goes.
go-tells : (child : Child) (keys : ℕ) → LevelTells Same child keys → 1 ≤ keys → LevelTells OneLess (child_stepped false child) keys
go-tells Free keys tells some = tt
go-tells (Tail rest) keys tells some = tt
go-tells (Level told words) keys tells some = (let same : told ≡ keys = tells in omega (arith, same, some))

can-go_at : (child : Child) (keys : ℕ) → LevelTells Same child keys → 1 ≤ keys → ChildCanStep false child
can-go_at Free keys tells some = tt
can-go_at (Tail rest) keys tells some = tt
can-go_at (Level told words) keys tells some = (let same : told ≡ keys = tells in omega (arith, same, some))

step-node : (comes : Bool) (child : Child) → node_of (child_stepped comes child) ≡ node_of child
step-node comes Free = refl
step-node comes (Tail rest) = refl
step-node comes (Level keys words) = refl

step-text : (comes : Bool) (child : Child) → HasText child → HasText (child_stepped comes child)
step-text comes Free has = has
step-text comes (Tail rest) has = has
step-text comes (Level keys words) has = has

set-itself : (world : World) (at : ℕ) (node : Node) → node ≡ world at → set_node world at node ≡ world
set-itself world at node same = λ i seat. by_seat seat i
  where
    by_seat : (seat : ℕ) → set_node world at node seat ≡ world seat
    by_seat seat = elim (cases_eq seat at) [
      | inl e ↦ cond-same world at node seat e ∙ same ∙ ap world (sym e)
      | inr apart ↦ cond-other world at node seat apart
    ]

pub step-level : (comes : Bool) (child : Child) → IsLevelChild child → IsLevelChild (child_stepped comes child)
step-level comes Free is = is
step-level comes (Tail rest) is = is
step-level comes (Level keys words) is = is

-- A level's number may be stepped where it stands.
can-step_at : (now : Arena) (comes : Bool) (at : ℕ) → IsLevelChild (child_at now at) → CanHold now at (child_stepped comes (child_at now at))
can-step_at now comes at is = holds-level now at (child_stepped comes (child_at now at)) (step-level comes (child_at now at) is) is

-- ---- one child is stepped

module _ (now : Arena) (is : IsArena now) (comes : Bool) (at : ℕ) (is_level : IsLevelChild (child_at now at)) where
  abbrev child : Child
  child = child_stepped comes (child_at now at)

  abbrev can : CanHold now at child
  can = can-step_at now comes at is_level

  abbrev after : Arena
  after = with_child now at child

  after-world : world_of after ≡ world_of now
  after-world = world-with_child now at child can ∙ set-itself (world_of now) (suc at) (node_of child) (step-node comes (child_at now at))

  after-arena : IsArena after
  after-arena = record {
    behind = is.behind;
    is_world = subst (λ w. IsWorld w is.behind) (sym after-world) is.is_world;
    texts = λ k. elim (cases_eq k at) [
      | inl e ↦ subst HasText (sym (child_at-same now at child can k e)) (step-text comes (child_at now at) (is.texts at))
      | inr apart ↦ subst HasText (sym (child_at-other now at child can k apart)) (is.texts k)
    ];
  }

-- ---- one after the other

-- A place is one of some, or not.
pub among-cases : (places : List ℕ) (at : ℕ) → IsAmong places at ⊎ (IsAmong places at → ⊥)
among-cases [] at = inr (λ among. among)
among-cases (place ∷ places) at = elim (cases_eq at place) [
  | inl same ↦ inl (inl same)
  | inr apart ↦ ⊎_elim (λ among. inl (inr among)) (λ none. inr (λ among. ⊎_elim apart none among)) (among-cases places at)
]

-- So far some places are stepped, and when those that are left are, all are.
pub record IsStepping (comes : Bool) (before now : Arena) (left places : List ℕ) : Type 0 where
  pub is_arena : IsArena now
  pub once : AreOnce left
  pub can : CanStepAt comes now left
  pub goes : (after : Arena) → AreStepped comes now after left → AreStepped comes before after places

pub stepping-start : (comes : Bool) (before : Arena) (places : List ℕ) → IsArena before → AreOnce places → CanStepAt comes before places → IsStepping comes before before places places
stepping-start comes before places is once can = record { is_arena = is; once = once; can = can; goes = λ after stepped. stepped }

pub stepping-end : (comes : Bool) (before now : Arena) (places : List ℕ) → IsStepping comes before now [] places → AreStepped comes before now places
stepping-end comes before now places so_far = so_far.goes now (record { is_arena = so_far.is_arena; world = refl; passed = λ at among. absurd among; others = λ at none. refl })

module _ (comes : Bool) (before now : Arena) (at : ℕ) (left places : List ℕ) (so_far : IsStepping comes before now (at ∷ left) places) where
  abbrev pub here : IsLevelChild (child_at now at) × ChildCanStep comes (child_at now at)
  here = so_far.can at (inl refl)

  module _ (next : Arena) (next_is : next ≡ with_child now at (child_stepped comes (child_at now at))) where
    at-here : child_at next at ≡ child_stepped comes (child_at now at)
    at-here = ap (λ (a : Arena). child_at a at) next_is ∙ child_at-same now at (child_stepped comes (child_at now at)) (can-step_at now comes at here.0) at refl

    elsewhere : (k : ℕ) → k ≢ at → child_at next k ≡ child_at now k
    elsewhere k apart = ap (λ (a : Arena). child_at a k) next_is ∙ child_at-other now at (child_stepped comes (child_at now at)) (can-step_at now comes at here.0) k apart

    pub next-world : world_of next ≡ world_of now
    next-world = ap world_of next_is ∙ after-world now so_far.is_arena comes at here.0

    apart-left : (k : ℕ) → IsAmong left k → k ≢ at
    apart-left k among same = so_far.once.0 (subst (IsAmong left) same among)

    pub stepping-on : IsStepping comes before next left places
    stepping-on = record {
      is_arena = subst IsArena (sym next_is) (after-arena now so_far.is_arena comes at here.0);
      once = so_far.once.1;
      can = λ k among. subst (λ child. IsLevelChild child × ChildCanStep comes child) (sym (elsewhere k (apart-left k among))) (so_far.can k (inr among));
      goes = λ after stepped. so_far.goes after (record {
        is_arena = stepped.is_arena;
        world = stepped.world ∙ next-world;
        passed = λ k among. ⊎_elim
            (λ same. subst (λ n. child_at after n ≡ child_stepped comes (child_at now n)) (sym same) (stepped.others at so_far.once.0 ∙ at-here))
            (λ later. stepped.passed k later ∙ ap (λ child. child_stepped comes child) (elsewhere k (apart-left k later)))
            among;
        others = λ k none. stepped.others k (λ among. none (inr among)) ∙ elsewhere k (λ same. none (inl same));
      });
    }

-- ---- a key that is counted in

-- Behind a seat that comes later on a way stand no more keys.
walk-fewer : (world : World) (behind : ℕ → List ℕ) → IsWorld world behind → (seat : ℕ) (front : List ℕ) (end : ℕ) → AreInner front → walk world seat front ≡ Some end →
    keys_behind world end ≤ keys_behind world seat
walk-fewer world behind is seat [] end inner way =
    let same : seat ≡ end = cc in
    let keys = ap (λ s. keys_behind world s) same in
    omega (arith, keys)
walk-fewer world behind is seat (piece ∷ front) end inner way =
    let step = step-parts (world seat) piece (λ found. walk world (suc found) front) end way in
    let one = fewer-behind world behind is seat step.map step.is piece step.found step.entry inner.0 in
    let more = walk-fewer world behind is (suc step.found) front end inner.1 step.goes in
    omega (arith, one, more)

few-behind : (arena : Arena) (is : IsArena arena) → AllLed (world_of arena) → (at : ℕ) → IsLevelChild (child_at arena at) → len (map_of arena) ≤ 4294967295 →
    keys_behind (world_of arena) (suc at) ≤ 4294967295
few-behind arena is led at level few =
    let reached = all-reached (world_of arena) is.behind is.is_world led at (λ none. level-there (child_at arena at) level none) in
    let fewer = walk-fewer (world_of arena) is.behind is.is_world 0 reached.front (suc at) reached.inner reached.way in
    omega (arith, fewer, few)

module _ (before : Arena) (is : IsArena before) (led : AllLed (world_of before)) (few : len (map_of before) ≤ 4294967295) (places : List ℕ) (counted : AreCountedBut before places) where
  pub can-come : CanStepAt true before places
  can-come at among = (
    counted.levels at among,
    can-come_at (child_at before at) (keys_behind (world_of before) (suc at)) (counted.passed at among) (few-behind before is led at (counted.levels at among) few),
  )

  pub come-counted : (after : Arena) → AreStepped true before after places → AreCounted after
  come-counted after stepped at =
      subst (λ (w : World). LevelTells Same (child_at after at) (keys_behind w (suc at))) (sym stepped.world) (
      ⊎_elim
      (λ among. subst (λ child. LevelTells Same child (keys_behind (world_of before) (suc at))) (sym (stepped.passed at among))
      (come-tells (child_at before at) (keys_behind (world_of before) (suc at)) (counted.passed at among)))
      (λ none. subst (λ child. LevelTells Same child (keys_behind (world_of before) (suc at))) (sym (stepped.others at none)) (counted.others at none))
      (among-cases places at))

-- ---- a key that is counted out

module _ (before : Arena) (is : IsArena before) (counted : AreCounted before) (key : List ℕ) (is_key : IsString key) (there : is_some (lookup (world_of before) 0 (pieces key)) ≡ true)
    (count : ℕ) where
  abbrev places : List ℕ
  places = take count (levels_passed (world_of before) key)

  passed-at : (at : ℕ) → IsAmong places at → IsPassed (world_of before) 0 (pieces key) at
  passed-at at among = among-way (world_of before) is.behind is.is_world key is_key at (among-front count (levels_passed (world_of before) key) at among)

  level-at : (at : ℕ) → IsAmong places at → IsLevelChild (child_at before at)
  level-at at among = let passed = passed-at at among in level-child (child_at before at) passed.map passed.is_level

  -- The key itself stands behind each.
  some-at : (at : ℕ) → IsAmong places at → 1 ≤ keys_behind (world_of before) (suc at)
  some-at at among =
      let passed = passed-at at among in
      let way = keys-reached (world_of before) (passed.piece ∷ passed.front) (suc at) passed.way in
      let one = keys-some (world_of before) (passed.piece ∷ passed.front) passed.inner key is_key passed.rest passed.parts there in
      omega (arith, way, one)

  pub go-once : AreOnce places
  go-once = once-front count (levels_passed (world_of before) key) (once-passed (world_of before) is.behind is.is_world key is_key)

  pub can-go : CanStepAt false before places
  can-go at among = (level-at at among, can-go_at (child_at before at) (keys_behind (world_of before) (suc at)) (counted at) (some-at at among))

  pub go-counted : (after : Arena) → AreStepped false before after places → AreCountedBut after places
  go-counted after stepped = record {
    once = go-once;
    levels = λ at among. subst IsLevelChild (sym (stepped.passed at among)) (step-level false (child_at before at) (level-at at among));
    passed = λ at among.
        subst (λ (w : World). LevelTells OneLess (child_at after at) (keys_behind w (suc at))) (sym stepped.world) (
        subst (λ child. LevelTells OneLess child (keys_behind (world_of before) (suc at))) (sym (stepped.passed at among))
        (go-tells (child_at before at) (keys_behind (world_of before) (suc at)) (counted at) (some-at at among)));
    others = λ at none.
        subst (λ (w : World). LevelTells Same (child_at after at) (keys_behind w (suc at))) (sym stepped.world) (
        subst (λ child. LevelTells Same child (keys_behind (world_of before) (suc at))) (sym (stepped.others at none)) (counted at));
  }
