-- The key at a place of an array, which is still to be read.
use Rattle.std.proofs.Common.{◌≡◌, ◌≢◌, ℕ, ◌-◌, ◌<◌, ◌≤◌, length, slice_get, Some, refl, sym, ap, ◌∙◌, arith}
use Rattle.std.specs.FinMap.{FinMap, entries, len}
use Rattle.std.proofs.lemmas.Option.{same_Some}
use Rattle.judy_model.specs.Keys.{word_order, byte_order}
use Rattle.judy_model.specs.Counts.{by_count}
use Rattle.judy_sl.specs.declared.arena.Arena.{Arena}
use Rattle.judy_sl.specs.Arenas.{world_of, map_of, IsArena}
use Rattle.judy_sl.specs.Firsts.{AreFirsts}
use Rattle.judy_sl.specs.Listed.{IsListOf}
use Rattle.judy_sl.specs.Counted.{StandsWith}
use Rattle.judy_sl.specs.Scans.{value_found}
use Rattle.judy_sl.specs.Readers.{KeyLeft, level_keys, pair_left}
use Rattle.judy_sl.proofs.lemmas.places.Nths.{nth_counted}
use Rattle.judy_sl.proofs.lemmas.places.NthWays.{held_at}
use Rattle.judy_sl.proofs.lemmas.places.NthFirsts.{nth_is}
use Rattle.judy_sl.proofs.lemmas.readers.LevelSteps.{there_at, level_count, keys_are}

module _ (arena : Arena) (is_arena : IsArena arena) where
  abbrev root : FinMap word_order ℕ
  root = arena.root.map

  abbrev all : FinMap byte_order ℕ
  all = map_of arena

  -- Behind the first level stand all keys,
  pub root_stands : (keys : ℕ) → keys ≡ len all → StandsWith (world_of arena) root keys
  root_stands keys told = record { seat = 0; is_level = refl; told = told }

  -- how many begin with each piece its list tells,
  pub root_list : (firsts : FinMap word_order ℕ) → AreFirsts all firsts → IsListOf (world_of arena) root (Some firsts)
  root_list firsts are = λ list same. (0, refl, rw (← same_Some firsts list same) are)

  pub root_within : (place : ℕ) → place < len all → place < length (level_keys (world_of arena) root)
  root_within place within = let count = level_count arena is_arena 0 root refl in omega (arith, count, within)

  -- and the one at a place is left of it.
  pub root_left : (n : ℕ) → n ≢ 0 → n ≤ len all → (key : KeyLeft) → key ≡ pair_left (slice_get (level_keys (world_of arena) root) (n - 1)) →
      (key.left ≡ by_count all n) × (value_found all key.left ≡ Some key.value)
  root_left n some most key same =
      let long = level_count arena is_arena 0 root refl in
      let one = there_at (level_keys (world_of arena) root) (n - 1) (omega (arith, some, most, long)) in
      let pair = one.0 in
      let its : key ≡ pair_left (Some pair) = same ∙ ap pair_left one.1 in
      let at : slice_get (entries all) (n - 1) ≡ Some (pair.0, pair.1) = ap (λ pairs. slice_get pairs (n - 1)) (sym (keys_are arena is_arena 0 root refl)) ∙ one.1 in (
        ap (λ (one : KeyLeft). one.left) its ∙ sym (nth_counted all n some pair.0 (nth_is all (n - 1) pair.0 pair.1 at)),
        ap (λ (one : KeyLeft). value_found all one.left) its ∙ held_at all (n - 1) pair.0 pair.1 at ∙ ap (λ (one : KeyLeft). Some one.value) (sym its),
      )
