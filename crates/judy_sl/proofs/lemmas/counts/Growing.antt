-- What a new tail and a new entry leave of the levels, and of what they tell.
use Rattle.std.proofs.Common.{◌≡◌, ℕ, suc, List, None, inl, inr, refl, sym, ap, subst, ◌∙◌}
use Rattle.std.proofs.lemmas.Bool.{cases_eq}
use Rattle.std.proofs.lemmas.Option.{none-some}
use Rattle.std.specs.FinMap.{FinMap, get}
use Rattle.judy_model.specs.Keys.{word_order}
use Rattle.judy_sl.specs.Children.{Child, Free, Tail, Level}
use Rattle.judy_sl.specs.declared.arena.Arena.{Arena}
use Rattle.judy_sl.specs.declared.arena.Place.{Place}
use Rattle.judy_sl.specs.declared.arena.Place.TheVariants.{Root, Below}
use Rattle.judy_sl.specs.World.{World, gone, level}
use Rattle.judy_sl.specs.WorldInvariants.{AllLed}
use Rattle.judy_sl.specs.Arenas.{world_of, node_of, child_at, IsArena}
use Rattle.judy_sl.specs.Children.{child_with}
use Rattle.judy_sl.specs.Places.{place_with}
use Rattle.judy_sl.specs.Ways.{seat_of, piece_at, levels_passed, IsGap}
use Rattle.judy_sl.specs.Counted.{keys_behind, LevelTells, Same, AreCounted, AreCountedBut}
use Rattle.judy_sl.specs.Grown.{IsPut, IsAdded, IsSame}
use Rattle.judy_sl.specs.Listed.{StaysLed}
use Rattle.judy_sl.proofs.lemmas.seats.Led.{KeepsEntries, keeps-same, keeps-then, keeps-none, keeps-insert, keeps-set}
use Rattle.judy_sl.proofs.lemmas.seats.Linked.{node_with, can-with, child_at-same, child_at-other, world-with_place}
use Rattle.judy_sl.proofs.lemmas.inserts.Filled.{world-same, level-child, level-place}
use Rattle.judy_sl.proofs.lemmas.inserts.Tailed.{world-put, level-put}
use Rattle.judy_sl.proofs.lemmas.seats.Keeping.{gap-none}
use Rattle.judy_sl.proofs.lemmas.counts.KeptLevels.{walk-keeps}
use Rattle.judy_sl.proofs.lemmas.counts.CountedAdded.{LevelWas, came-was, counted-but}
use Rattle.judy_sl.specs.Strings.{IsString}

-- Each level stays one, with its number and its entries that lead on, and none is new.
pub record GrowsOn (before after : Arena) : Type 0 where
  pub keeps : (seat : ℕ) → KeepsEntries (world_of before seat) (world_of after seat)
  pub was : (at : ℕ) → LevelWas before at (child_at after at)

pub stays-grown : (before after : Arena) → GrowsOn before after → StaysLed before after
stays-grown before after grows at told was e =
    let kept = grows.keeps (suc at) was.map (ap node_of e) in
    (level-child (child_at after at) kept.0 kept.1, λ front inner way. walk-keeps (world_of before) (world_of after) grows.keeps 0 front (suc at) inner way)

pub was-same : (before : Arena) (at : ℕ) (child : Child) → child_at before at ≡ child → LevelWas before at child
was-same before at Free e = tt
was-same before at (Tail rest) e = tt
was-same before at (Level told words) e = (words, e)

pub was-then : (before middle : Arena) (at : ℕ) (child : Child) → LevelWas before at (child_at middle at) → LevelWas middle at child → LevelWas before at child
was-then before middle at Free first was = tt
was-then before middle at (Tail rest) first was = tt
was-then before middle at (Level told words) first was = subst (LevelWas before at) was.1 first

-- One step after another.
pub grows-then : (before middle after : Arena) → GrowsOn before middle → GrowsOn middle after → GrowsOn before after
grows-then before middle after one two = record {
  keeps = λ seat. keeps-then (world_of before seat) (world_of middle seat) (world_of after seat) (one.keeps seat) (two.keeps seat);
  was = λ at. was-then before middle at (child_at after at) (one.was at) (two.was at);
}

-- Nothing has changed.
pub grows-same : (before after : Arena) → IsSame before after → GrowsOn before after
grows-same before after same = record {
  keeps = λ seat. keeps-same (world_of before seat) (world_of after seat) (ap (λ (w : World). w seat) (world-same before after same));
  was = λ at. was-same before at (child_at after at) (sym (same.children at));
}

-- A tail was put where nothing was.
pub grows-put : (before after : Arena) (rest : List ℕ × ℕ) (at : ℕ) → IsPut before after (Tail rest) at → GrowsOn before after
grows-put before after rest at put =
    let node = node_of (Tail rest) in
    let free : KeepsEntries (world_of before (suc at)) node = keeps-none (world_of before (suc at)) node (λ map e. let g : gone ≡ level map = sym put.was_free ∙ e in cc) in
    record {
      keeps = subst (λ (w : World). (seat : ℕ) → KeepsEntries (world_of before seat) (w seat)) (sym (world-put before after (Tail rest) at put)) (keeps-set (world_of before) (suc at) node free);
      was = λ k. elim (cases_eq k at) [
        | inl e ↦ subst (LevelWas before k) (sym (ap (child_at after) e ∙ put.here)) tt
        | inr apart ↦ was-same before k (child_at after k) (sym (put.elsewhere k apart))
      ];
    }

was-with : (arena : Arena) (at piece value : ℕ) (child : Child) → child_at arena at ≡ child → LevelWas arena at (child_with child piece value)
was-with arena at piece value Free e = tt
was-with arena at piece value (Tail rest) e = tt
was-with arena at piece value (Level told words) e = (words, e)

-- A level has an entry more.
module _ (arena : Arena) (place : Place) (value : ℕ) (map : FinMap word_order ℕ) (is_level : world_of arena (seat_of place) ≡ level map) where
  pub was-place : (p : Place) → world_of arena (seat_of p) ≡ level map → (k : ℕ) → LevelWas arena k (child_at (place_with arena p value) k)
  was-place (Root piece) there k = was-same arena k (child_at arena k) refl
  was-place (Below at piece) there k =
      let can = can-with arena at piece value (level-place arena (Below at piece) map there) in
      let child = child_with (child_at arena at) piece value in
      elim (cases_eq k at) [
        | inl e ↦ subst (LevelWas arena k) (sym (child_at-same arena at child can k e)) (subst (λ n. LevelWas arena n child) (sym e) (was-with arena at piece value (child_at arena at) refl))
        | inr apart ↦ was-same arena k (child_at (place_with arena (Below at piece) value) k) (sym (child_at-other arena at child can k apart))
      ]

  pub grows-place : get map (piece_at place) ≡ None → GrowsOn arena (place_with arena place value)
  grows-place absent =
      let seat = seat_of place in
      let node = node_with (world_of arena seat) (piece_at place) value in
      let kept : KeepsEntries (world_of arena seat) node = subst (λ n. KeepsEntries n (node_with n (piece_at place) value)) (sym is_level)
      (keeps-insert map (piece_at place) value (λ at inner entry. none-some at (sym absent ∙ entry))) in
      record {
        keeps =
            subst (λ (w : World). (s : ℕ) → KeepsEntries (world_of arena s) (w s)) (sym (world-with_place arena place value (level-place arena place map is_level)))
            (keeps-set (world_of arena) seat node kept);
        was = was-place place is_level;
      }

-- What leads on, and what levels tell, where nothing has changed.
pub led-same : (before after : Arena) → IsSame before after → AllLed (world_of before) → AllLed (world_of after)
led-same before after same led = subst AllLed (sym (world-same before after same)) led

pub counted-same : (before after : Arena) → IsSame before after → AreCounted before → AreCounted after
counted-same before after same counted at =
    subst (λ (w : World). LevelTells Same (child_at after at) (keys_behind w (suc at))) (sym (world-same before after same)) (
    subst (λ child. LevelTells Same child (keys_behind (world_of before) (suc at))) (sym (same.children at)) (counted at))

-- ---- a key that is added where a level has no entry for it

-- The steps: the tail, where one is put in, and the entry.
module _ (before : Arena) (key : List ℕ) (place : Place) (left : ℕ) (gap : IsGap (world_of before) key place left) where
  pub grows-last : (after : Arena) → after ≡ place_with before place 0 → GrowsOn before after
  grows-last after is_after = subst (GrowsOn before) (sym is_after) (grows-place before place 0 gap.map gap.is_level gap.absent)

  pub grows-tail : (placed after : Arena) (at : ℕ) (rest : List ℕ × ℕ) → IsPut before placed (Tail rest) at → after ≡ place_with placed place at → GrowsOn before after
  grows-tail placed after at rest put is_after =
      let there = level-put before placed (Tail rest) at put (seat_of place) gap.map gap.is_level in
      let second : GrowsOn placed after = subst (GrowsOn placed) (sym is_after) (grows-place placed place at gap.map there gap.absent) in
      grows-then before placed after (grows-put before placed rest at put) second

-- Each level that its way has passed tells one key less than stand behind it.
pub gap-counted : (before : Arena) (is : IsArena before) (led : AllLed (world_of before)) (counted : AreCounted before) (key : List ℕ) (is_key : IsString key)
    (place : Place) (left : ℕ) (gap : IsGap (world_of before) key place left) (after : Arena) (made : Place) (added : IsAdded before after key made) (grows : GrowsOn before after) →
    AreCountedBut after (levels_passed (world_of before) key)
gap-counted before is led counted key is_key place left gap after made added grows =
    counted-but before after is added.is_arena led counted key is_key 0 added.change (gap-none (world_of before) key place left gap) (stays-grown before after grows)
    (λ at. came-was before after at (child_at after at) (grows.was at))
