-- An insert or a delete, and then the count of its key.
use Rattle.std.proofs.Common.{◌≡◌, ℕ, ◌+◌, ◌<◌, ◌≤◌, Bool, true, false, cond, List, is_some, None, Some, sym, ap, subst, ◌∙◌, arith}
use Rattle.std.specs.FinMap.{FinMap, get, len, len-insert}
use Rattle.judy_model.specs.Keys.{byte_order}
use Rattle.judy_model.proofs.lemmas.maps.TableLemmas.{byte_order_total}
use Rattle.judy_sl.specs.declared.arena.Arena.{Arena}
use Rattle.judy_sl.specs.declared.arena.Place.{Place}
use Rattle.judy_sl.specs.Pieces.{pieces}
use Rattle.judy_sl.specs.World.{World}
use Rattle.judy_sl.specs.WorldInvariants.{AllLed}
use Rattle.judy_sl.specs.Arenas.{world_of, map_of, IsArena}
use Rattle.judy_sl.specs.Ways.{IsFound}
use Rattle.judy_sl.specs.Grown.{IsChange, IsAdded}
use Rattle.judy_sl.specs.Shrunk.{IsShrunk}
use Rattle.judy_sl.proofs.lemmas.seats.Maps.{map_written}
use Rattle.judy_sl.specs.Strings.{IsString}

-- ---- how many keys there are

at-most : (there : Bool) (count most : ℕ) → count < most → cond there count (count + 1) ≤ most
at-most true count most few = omega (arith, few)
at-most false count most few = omega (arith, few)

-- An insert makes one more at most.
pub few-more : (before after : Arena) (key : List ℕ) (place : Place) (most : ℕ) → IsString key → IsAdded before after key place → len (map_of before) < most → len (map_of after) ≤ most
few-more before after key place most is_key added few =
    let more = ap (λ (m : FinMap byte_order ℕ). len m) (map_written before after key is_key 0 added.change) ∙ len-insert byte_order_total (map_of before) key 0 in
    subst (λ n. n ≤ most) (sym more) (at-most (is_some (get (map_of before) key)) (len (map_of before)) most few)

-- ---- the numbers of levels change nothing else

pub added-counted : (before mid after : Arena) (key : List ℕ) → world_of after ≡ world_of mid → IsArena after → (place : Place) → IsAdded before mid key place → IsAdded before after key place
added-counted before mid after key world is_arena place added = record {
  is_arena = is_arena;
  led = λ led. subst AllLed (sym world) (added.led led);
  change = subst (λ (w : World). IsChange (world_of before) w (pieces key) (Some 0)) (sym world) added.change;
  found = subst (λ (w : World). IsFound w key place) (sym world) added.found;
}

pub shrunk-counted : (before mid after : Arena) (key : List ℕ) → world_of mid ≡ world_of before → IsShrunk mid after key → IsShrunk before after key
shrunk-counted before mid after key world shrunk = record {
  is_arena = shrunk.is_arena;
  led = shrunk.led;
  change = subst (λ (w : World). IsChange w (world_of after) (pieces key) None) world shrunk.change;
}
