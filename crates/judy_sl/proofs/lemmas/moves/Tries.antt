-- A key that is put in where an arena has settled before.
use Rattle.std.proofs.Common.{◌≡◌, ◌≢◌, ℕ, suc, List, ◌++◌, Option, None, Some, Result, Ok, Err, IfOk, OnOk, OnErr, refl, sym, ap, subst, ◌∙◌}
use Rattle.std.proofs.lemmas.Option.{none-some}
use Rattle.std.specs.FinMap.{FinMap, get}
use Rattle.judy_model.specs.Keys.{byte_order}
use Rattle.judy_model.specs.Arrays.{ArrayOf}
use Rattle.judy_sl.specs.declared.arena.Arena.{Arena}
use Rattle.judy_sl.specs.declared.arena.Place.{Place}
use Rattle.judy_sl.specs.declared.arena.Way.{Way}
use Rattle.judy_sl.specs.declared.arena.Way.TheVariants.{At, Gap, Clash}
use Rattle.judy_sl.specs.Children.{IsLevelChild}
use Rattle.judy_sl.specs.Pieces.{pieces, ArePieces, SpellKey}
use Rattle.judy_sl.specs.World.{World, lookup}
use Rattle.judy_sl.specs.WorldInvariants.{AllLed}
use Rattle.judy_sl.specs.Arenas.{world_of, child_at, map_of, array_of, IsArena, IsStrings}
use Rattle.judy_sl.specs.Behind.{map_behind}
use Rattle.judy_sl.specs.Counted.{AreCounted}
use Rattle.judy_sl.specs.Grown.{IsAdded, IsSame}
use Rattle.judy_sl.specs.Settled.{IsKept, IsSettled}
use Rattle.judy_sl.specs.Strings.{IsString}
use Rattle.judy_sl.specs.Ways.{IsWay, IsNew}
use Rattle.judy_sl.proofs.lemmas.seats.Behind.{found_spells}
use Rattle.judy_sl.proofs.lemmas.inserts.Written.{found-there}
use Rattle.judy_sl.proofs.lemmas.seats.Maps.{get-map}
use Rattle.judy_sl.proofs.lemmas.inserts.Filled.{world-same, arena-same}
use Rattle.judy_sl.proofs.lemmas.counts.FirstWays.{map_same}
use Rattle.judy_sl.proofs.lemmas.counts.Growing.{counted-same}

-- Where nothing has changed it is settled.
pub same_settled : (before after : Arena) → IsKept before → IsSame before after → IsSettled before after
same_settled before after kept same = record {
  kept = record {
    is_arena = arena-same before after same kept.is_arena;
    led = subst AllLed (sym (world-same before after same)) kept.led;
    counted = counted-same before after same kept.counted;
  };
  same = map_same before after same;
  levels = λ at there. subst IsLevelChild (sym (same.children at)) there;
  behind = λ at is. ap (λ (w : World). map_behind w (suc at)) (world-same before after same);
}

module _ (before after : Arena) (is : IsArena before) (settled : IsSettled before after) where
  by_key : (ps : List ℕ) → SpellKey ps → lookup (world_of after) 0 ps ≡ lookup (world_of before) 0 ps
  by_key ps spells =
      ap (lookup (world_of after) 0) (sym spells.spells)
      ∙ sym (get-map after spells.key spells.is_key)
      ∙ ap (λ (m : FinMap byte_order ℕ). get m spells.key) settled.same
      ∙ get-map before spells.key spells.is_key
      ∙ ap (lookup (world_of before) 0) spells.spells

  -- The same is found.
  settled_found : (ps : List ℕ) → ArePieces ps → lookup (world_of after) 0 ps ≡ lookup (world_of before) 0 ps
  settled_found ps are = by (lookup (world_of after) 0 ps) (lookup (world_of before) 0 ps) refl refl
    where
      by : (now was : Option ℕ) → lookup (world_of after) 0 ps ≡ now → lookup (world_of before) 0 ps ≡ was → lookup (world_of after) 0 ps ≡ lookup (world_of before) 0 ps
      by (Some value) was e f =
          by_key ps (subst (λ place. SpellKey (place ++ ps)) settled.kept.is_arena.is_world.first (found_spells settled.kept.is_arena.is_world 0 value ps are e))
      by None (Some value) e f = by_key ps (subst (λ place. SpellKey (place ++ ps)) is.is_world.first (found_spells is.is_world 0 value ps are f))
      by None None e f = e ∙ sym f

  -- So what is added then is added to what was before.
  pub settled_added : (last : Arena) (key : List ℕ) (place : Place) → IsAdded after last key place → IsAdded before last key place
  settled_added last key place added = record {
    is_arena = added.is_arena;
    led = λ led. added.led settled.kept.led;
    change = record { at_key = added.change.at_key; elsewhere = λ ps are apart. added.change.elsewhere ps are apart ∙ settled_found ps are };
    found = added.found;
  }

  pub settled_array : (limit : ℕ) → array_of limit after ≡ array_of limit before
  settled_array limit = ap (λ (m : FinMap byte_order ℕ). record { limit = limit; map = m }) settled.same

pub if_ok : {A E : Type 0} {P Q : A → Type 0} (result : Result A E) → ((made : A) → P made → Q made) → IfOk result P → IfOk result Q
if_ok (Ok made) goes holds = goes made holds
if_ok (Err error) goes holds = tt

pub on_err : {A E P Q : Type 0} (result : Result A E) → (P → Q) → OnErr result P → OnErr result Q
on_err (Ok made) goes holds = tt
on_err (Err error) goes holds = goes holds

-- The way of a key that isn't there comes to no value.
pub absent_new : (arena : Arena) → IsArena arena → (key : List ℕ) → IsString key → (way : Way) → IsWay arena key way → get (map_of arena) key ≡ None → IsNew way
absent_new arena is key is_key (At place) goes none = none-some goes.value (sym none ∙ get-map arena key is_key ∙ found-there arena is key place goes)
absent_new arena is key is_key (Gap place left) goes none = tt
absent_new arena is key is_key (Clash from at left) goes none = tt
