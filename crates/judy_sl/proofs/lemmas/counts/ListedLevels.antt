-- The list of a level, by the place at which the level stands.
use Rattle.std.proofs.Common.{◌≡◌, ℕ, suc, ◌%◌, ◌/◌, ◌==◌, true, false, cond, List, Option, None, Some, refl, sym, ap, subst, ◌∙◌, arith}
use Rattle.std.proofs.lemmas.Bool.{eqb-true}
use Rattle.std.specs.FinMap.{FinMap}
use Rattle.judy_model.specs.Keys.{word_order}
use Rattle.judy_model.specs.Arrays.{ArrayOf}
use Rattle.judy_sums.specs.Listed.{list_at}
use Rattle.slab.specs.Slab as slab
use Rattle.judy_tails.specs.Tails.{tail_at}
use Rattle.judy_sl.specs.Children.{Child, Free, Tail, Level, is_level, level_child, tail_child}
use Rattle.judy_sl.specs.declared.arena.Arena.{Arena}
use Rattle.judy_sl.specs.World.{World, level}
use Rattle.judy_sl.specs.Behind.{map_behind}
use Rattle.judy_sl.specs.Firsts.{AreFirsts}
use Rattle.judy_sl.specs.Arenas.{world_of, node_of, child_at}
use Rattle.judy_sl.specs.Listed.{place_of, AreListed, IsListOf}

-- A place for tails has no level.
no_level : (slot : Option (List ℕ × ℕ)) (told : ℕ) (words : ArrayOf word_order) → tail_child slot ≡ Level told words → ⊥
no_level None told words is = cc
no_level (Some rest) told words is = cc

-- A level stands at the place of its index.
pub level_place : (arena : Arena) (at told : ℕ) (words : ArrayOf word_order) → child_at arena at ≡ Level told words → place_of (at / 256) ≡ at
level_place arena at told words there =
    let is : (at % 256 == 255) ≡ true = elim (is_level at) as (λ b. cond b (level_child (slab.get arena.levels (at / 256))) (tail_child (tail_at arena.tails at)) ≡ Level told words → b ≡ true) [
      | true ↦ λ _. refl
      | false ↦ λ e. absurd (no_level (tail_at arena.tails at) told words e)
    ] there in
    let last = eqb-true (at % 256) 255 is in
    omega arith

-- What the row holds for it is its list.
pub list_there : (arena : Arena) (lists : List (Option (FinMap word_order ℕ))) → AreListed (world_of arena) lists → (at told : ℕ) (words : ArrayOf word_order) → child_at arena at ≡ Level told words →
    (found : Option (FinMap word_order ℕ)) → found ≡ list_at lists (at / 256) → IsListOf (world_of arena) words.map found
list_there arena lists listed at told words there found is list some = (
  suc at,
  ap node_of there,
  subst (λ place. AreFirsts (map_behind (world_of arena) (suc place)) list) (level_place arena at told words there) (listed (at / 256) list (sym is ∙ some)).firsts,
)
