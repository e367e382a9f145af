-- What an insert makes of an array of strings.
use Rattle.std.proofs.Common.{◌≡◌, ◌≢◌, ℕ, ◌+◌, ◌≤◌, max, List, length, None, Some, IsTrue, IsFalse, Bool, true, false, not, ◌&&◌, ◌==◌, refl, sym, ap, subst, ◌∙◌, arith, eq-eqb}
use Rattle.std.proofs.lemmas.Bool.{ne_eqb, false≢true}
use Rattle.std.specs.FinMap.{FinMap, get, len}
use Rattle.judy_model.specs.Keys.{byte_order}
use Rattle.judy_model.specs.Arrays.{ins, is_full}
use Rattle.judy_model.proofs.lemmas.maps.Inserts.{get-insert_itself, ins_present, ins_absent, is_full_present, is_full_absent}
use Rattle.judy_model.proofs.lemmas.maps.TableLemmas.{byte_order_total}
use Rattle.judy_sl.specs.declared.arena.Arena.{Arena}
use Rattle.judy_sl.specs.declared.arena.Place.{Place}
use Rattle.judy_sl.specs.declared.arena.Way.{Way}
use Rattle.judy_sl.specs.declared.arena.Way.TheVariants.{At, Gap, Clash}
use Rattle.judy_sl.specs.Pieces.{pieces}
use Rattle.judy_sl.specs.World.{lookup}
use Rattle.judy_sl.specs.Arenas.{world_of, map_of, array_of, AreWithin, IsStrings}
use Rattle.judy_sl.specs.Places.{place_with, place_value}
use Rattle.judy_sl.specs.Ways.{IsWay, IsNew, IsFound}
use Rattle.judy_sl.specs.Grown.{IsChange, IsAdded}
use Rattle.judy_sl.specs.Lends.{with_value}
use Rattle.judy_sl.proofs.lemmas.pieces.Strings.{within-insert, within-more}
use Rattle.judy_sl.proofs.lemmas.seats.Maps.{map_written, len-added}
use Rattle.judy_sl.proofs.lemmas.inserts.Written.{written-change, found-there, value-there}
use Rattle.judy_sl.proofs.lemmas.seats.Keeping.{gap-none, clash-none, get-there}
use Rattle.judy_sl.specs.Strings.{IsString}

-- ---- the key isn't there

pub is-new : (way : Way) → ((place : Place) → way ≡ At place → ⊥) → IsNew way
is-new (At place) other = other place refl
is-new (Gap place left) other = tt
is-new (Clash from at left) other = tt

pub way-none : (arena : Arena) (key : List ℕ) (way : Way) → IsWay arena key way → IsNew way → lookup (world_of arena) 0 (pieces key) ≡ None
way-none arena key (At place) is new = absurd new
way-none arena key (Gap place left) is new = gap-none (world_of arena) key place left is
way-none arena key (Clash from at left) is new = clash-none (world_of arena) key from at left is

-- A key is tried only where there is room.
pub tried-room : (adds : Bool) (count limit : ℕ) → IsTrue (adds && not (count == limit)) → count ≢ limit
tried-room false count limit tried full = false≢true tried
tried-room true count limit tried full = false≢true (sym (ap not (eq-eqb count limit full)) ∙ tried)

module _ {most longest : ℕ} (limit count : ℕ) (arena : Arena) (is : IsStrings most longest limit count arena) (key : List ℕ) (is_key : IsString key) where
  -- Where the key is, the array isn't full for it, and the value stays.
  module _ (place : Place) (found : IsFound (world_of arena) key place) where
    pub there-not_full : IsFalse (is_full (array_of limit arena) key)
    there-not_full = is_full_present (array_of limit arena) key found.value (get-there limit count arena is key is_key place found)

    pub there-value : place_value arena place ≡ get (ins (map_of arena) key) key
    there-value =
        value-there arena is.is_arena key place found
        ∙ sym (ap (λ (m : FinMap byte_order ℕ). get m key) (ins_present (map_of arena) key found.value (get-there limit count arena is key is_key place found)) ∙
        get-there limit count arena is key is_key place found)

  -- Where it isn't.
  module _ (none : get (map_of arena) key ≡ None) where
    pub absent-full : count ≡ limit → IsTrue (is_full (array_of limit arena) key)
    absent-full e = is_full_absent (array_of limit arena) key none ∙ eq-eqb (len (map_of arena)) limit (sym is.counted ∙ e)

    pub absent-room : count ≢ limit → IsFalse (is_full (array_of limit arena) key)
    absent-room ne = is_full_absent (array_of limit arena) key none ∙ ne_eqb (len (map_of arena)) limit (λ e. ne (is.counted ∙ e))

    pub absent-ins : get (ins (map_of arena) key) key ≡ Some 0
    absent-ins = ap (λ (m : FinMap byte_order ℕ). get m key) (ins_absent (map_of arena) key none) ∙ get-insert_itself byte_order_total (map_of arena) key 0

    -- The key is added.
    module _ (after : Arena) (place : Place) (added : IsAdded arena after key place) where
      pub strings-added : count ≢ limit → (longer : ℕ) → longer ≡ max longest (length key) → length key ≤ most → IsStrings most longer limit (count + 1) after
      strings-added room longer longer_is fits =
          let before = is.longest_fits in
          record {
            is_arena = added.is_arena;
            led = added.led is.led;
            counted = ap (λ n. n + 1) is.counted ∙ sym (ap (λ (m : FinMap byte_order ℕ). len m) (map_written arena after key is_key 0 added.change) ∙ len-added (map_of arena) key 0 none);
            within_limit = (let w = is.within_limit in omega arith);
            holds_some = is.holds_some;
            limit_fits = is.limit_fits;
            short = subst (AreWithin longer) (sym (map_written arena after key is_key 0 added.change))
                (within-insert longer (map_of arena) key 0 (within-more (map_of arena) is.short (omega (arith, longer_is))) (omega (arith, longer_is)));
            longest_fits = omega (arith, longer_is, before, fits);
          }

      pub array-added : (value : ℕ) → array_of limit (place_with after place value) ≡ with_value (array_of limit arena) key value
      array-added value =
          let second = written-change after added.is_arena key place added.found value in
          let both : IsChange (world_of arena) (world_of (place_with after place value)) (pieces key) (Some value) = record {
            at_key = second.at_key;
            elsewhere = λ ps are ne. second.elsewhere ps are ne ∙ added.change.elsewhere ps are ne;
          } in
          ap (λ (m : FinMap byte_order ℕ). record { limit = limit; map = m }) (map_written arena (place_with after place value) key is_key value both)

      pub added-value : place_value after place ≡ get (ins (map_of arena) key) key
      added-value =
          value-there after added.is_arena key place added.found
          ∙ sym (found-there after added.is_arena key place added.found)
          ∙ added.change.at_key
          ∙ sym absent-ins
