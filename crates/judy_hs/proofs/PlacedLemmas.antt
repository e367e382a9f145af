-- What an insert makes of the groups of an array, and so of the array.
use Rattle.std.proofs.Common.{◌≡◌, ◌≢◌, ℕ, ◌+◌, ◌≤◌, ◌==◌, Bool, true, false, not, cond, List, length, Option, Some, None, is_some, IsTrue, IsFalse, eq-eqb, refl, sym, ap, ◌∙◌, subst, arith}
use Rattle.std.specs.FinMap.{FinMap, get, len, contains_key, len-insert}
use Rattle.std.specs.Int.{from_bool}
use Rattle.std.proofs.lemmas.Bool.{ne_eqb, false≢true}
use Rattle.judy_model.specs.Keys.{byte_order}
use Rattle.judy_model.specs.KeyLengths.{IsBytesKeyTo}
use Rattle.judy_model.specs.Arrays.{ins, write, is_full}
use Rattle.judy_model.proofs.lemmas.maps.TableLemmas.{byte_order_total, byte_order_same}
use Rattle.judy_model.proofs.lemmas.maps.ChangesLemmas.{write-write}
use Rattle.judy_model.proofs.lemmas.maps.Inserts.{ins_present, ins_absent, is_full_present, is_full_absent}
use Rattle.judy_hs.specs.declared.error.HsError.{HsError}
use Rattle.judy_hs.specs.declared.groups.KeyPlace.{KeyPlace}
use Rattle.judy_hs.specs.Groups.{value_inside}
use Rattle.judy_hs.specs.Keyed.{Keyed, group_at, IsSpot, IsNewSpot, keyed_with, added_keyed}
use Rattle.judy_hs.specs.Parts.{part_of}
use Rattle.judy_hs.specs.Kept.{value_of, map_of, array_of, IsKeyed, IsHs}
use Rattle.judy_hs.specs.Placed.{IsPlaced, IsUnplaced, why_not}
use Rattle.judy_hs.specs.Relaid.{IsRelaidKeyed}
use Rattle.judy_hs.specs.Slots.{with_value}
use Rattle.judy_hs.proofs.HsLemmas.{get_is, spot-value, spot-some, added, array-written, IsHs-written}
use Rattle.judy_hs.proofs.RelaidLemmas.{relaid-map}

module _ (hash_of : List ℕ → ℕ) (longest : ℕ) where
  -- ---- in groups

  module _ (before : Keyed) (is : IsKeyed hash_of longest before) (key : List ℕ) (is_key : IsBytesKeyTo longest key) where
    -- The key was there.
    pub placed-there : (spot : KeyPlace) → IsSpot before (part_of hash_of key) key spot.group spot.inside → IsPlaced hash_of longest before before key spot false
    placed-there spot at =
        let held = spot-some hash_of longest before key is_key spot.group spot.inside at in
        record {
          is_keyed = is;
          is_key = is_key;
          is_spot = at;
          map_is = sym (ins_present (map_of hash_of longest before) key held.0 held.1);
          new_is = sym (ap (λ (found : Option ℕ). not (is_some found)) held.1);
        }

    module _ (none : value_of hash_of before key ≡ None) where
      absent : get (map_of hash_of longest before) key ≡ None
      absent = get_is hash_of longest before key is_key ∙ none

      -- It was put in.
      pub placed-new : (spot : KeyPlace) → IsNewSpot before (part_of hash_of key) key (get before.lengths.map (length key)) spot.group spot.inside → (after : Keyed) →
          after ≡ added_keyed before (part_of hash_of key) key (get before.lengths.map (length key)) spot.group spot.inside → IsPlaced hash_of longest before after key spot true
      placed-new spot new after made =
          let put = added hash_of longest before is key is_key spot.group spot.inside none new in
          record {
            is_keyed = subst (IsKeyed hash_of longest) (sym made) put.made.is;
            is_key = is_key;
            is_spot = subst (λ k. IsSpot k (part_of hash_of key) key spot.group spot.inside) (sym made) put.spot;
            map_is = ap (map_of hash_of longest) made ∙ put.made.map_is ∙ sym (ins_absent (map_of hash_of longest before) key absent);
            new_is = sym (ap (λ (found : Option ℕ). not (is_some found)) absent);
          }

      -- It was refused.
      pub unplaced : (after : Keyed) → after ≡ before → (is_full : Bool) (error : HsError) → error ≡ why_not is_full → IsUnplaced hash_of longest before after key is_full error
      unplaced after same is_full error why = record {
        is_keyed = subst (IsKeyed hash_of longest) (sym same) is;
        map_is = ap (map_of hash_of longest) same;
        absent = absent;
        error_is = why;
      }

  -- The same where records moved together before.
  module _ (before between : Keyed) (relaid : IsRelaidKeyed before between) (after : Keyed) (key : List ℕ) where
    map_same : map_of hash_of longest between ≡ map_of hash_of longest before
    map_same = relaid-map before between relaid hash_of longest

    pub placed-on : (spot : KeyPlace) (is_new : Bool) → IsPlaced hash_of longest between after key spot is_new → IsPlaced hash_of longest before after key spot is_new
    placed-on spot is_new placed = record {
      is_keyed = placed.is_keyed;
      is_key = placed.is_key;
      is_spot = placed.is_spot;
      map_is = placed.map_is ∙ ap (λ (map : FinMap byte_order ℕ). ins map key) map_same;
      new_is = placed.new_is ∙ ap (λ (map : FinMap byte_order ℕ). not (contains_key map key)) map_same;
    }

    pub unplaced-on : (is_full : Bool) (error : HsError) → IsUnplaced hash_of longest between after key is_full error → IsUnplaced hash_of longest before after key is_full error
    unplaced-on is_full error unplaced = record {
      is_keyed = unplaced.is_keyed;
      map_is = unplaced.map_is ∙ map_same;
      absent = ap (λ (map : FinMap byte_order ℕ). get map key) (sym map_same) ∙ unplaced.absent;
      error_is = unplaced.error_is;
    }

  -- ---- in an array

  module _ (limit count : ℕ) (before : Keyed) (is : IsHs hash_of longest limit count before) (after : Keyed) (key : List ℕ) where
    module _ (spot : KeyPlace) (is_new : Bool) (placed : IsPlaced hash_of longest before after key spot is_new) (room : IsTrue is_new → IsFalse (count == limit)) where
      -- How many keys there are then, and that the limit isn't reached before, by whether the key was there.
      record IsCounted : Type 0 where
        counted : count + from_bool is_new ≡ len (map_of hash_of longest after)
        within : count + from_bool is_new ≤ limit
        accepted : IsFalse (is_full (array_of hash_of longest limit before) key)
        written : (value : ℕ) → write (map_of hash_of longest after) key value ≡ write (map_of hash_of longest before) key value

      by_found : (found : Option ℕ) → get (map_of hash_of longest before) key ≡ found → IsCounted
      by_found None none =
          let new : is_new ≡ true = placed.new_is ∙ ap (λ (o : Option ℕ). not (is_some o)) none in
          let map_is = placed.map_is ∙ ins_absent (map_of hash_of longest before) key none in
          let differs : count ≢ limit = λ e. false≢true (sym (room new) ∙ eq-eqb count limit e) in
          let below = is.within_limit in
          record {
            counted =
                ap (λ (b : Bool). count + from_bool b) new ∙ ap (λ n. n + 1) is.counted
                ∙ sym (ap len map_is ∙ len-insert byte_order_total (map_of hash_of longest before) key 0
                ∙ ap (λ (o : Option ℕ). cond (is_some o) (len (map_of hash_of longest before)) (len (map_of hash_of longest before) + 1)) none);
            within = subst (λ (b : Bool). count + from_bool b ≤ limit) (sym new) (omega (arith, differs, below));
            accepted = is_full_absent (array_of hash_of longest limit before) key none ∙ ne_eqb _ _ (λ e. differs (is.counted ∙ e));
            written = λ value. ap (λ (map : FinMap byte_order ℕ). write map key value) map_is ∙ write-write byte_order_total (map_of hash_of longest before) key byte_order_same 0 value;
          }
      by_found (Some value) some =
          let old : is_new ≡ false = placed.new_is ∙ ap (λ (o : Option ℕ). not (is_some o)) some in
          let map_is = placed.map_is ∙ ins_present (map_of hash_of longest before) key value some in
          let below = is.within_limit in
          record {
            counted = ap (λ (b : Bool). count + from_bool b) old ∙ omega arith ∙ is.counted ∙ sym (ap len map_is);
            within = subst (λ (b : Bool). count + from_bool b ≤ limit) (sym old) (omega (arith, below));
            accepted = is_full_present (array_of hash_of longest limit before) key value some;
            written = λ value. ap (λ (map : FinMap byte_order ℕ). write map key value) map_is;
          }

      is_counted : IsCounted
      is_counted = by_found (get (map_of hash_of longest before) key) refl

      pub placed-accepted : IsFalse (is_full (array_of hash_of longest limit before) key)
      placed-accepted = is_counted.accepted

      pub placed-hs : IsHs hash_of longest limit (count + from_bool is_new) after
      placed-hs = record {
        is_keyed = placed.is_keyed;
        counted = is_counted.counted;
        within_limit = is_counted.within;
        holds_some = is.holds_some;
        limit_fits = is.limit_fits;
      }

      pub placed-value : (slot : ℕ) → Some slot ≡ value_inside (group_at after spot.group) spot.inside key → Some slot ≡ get (ins (map_of hash_of longest before) key) key
      placed-value slot e =
          e ∙ sym (spot-value hash_of longest after key placed.is_key spot.group spot.inside placed.is_spot) ∙ ap (λ (map : FinMap byte_order ℕ). get map key) placed.map_is

      -- A value is written there.
      pub written-hs : (value : ℕ) → IsHs hash_of longest limit (count + from_bool is_new) (keyed_with after spot.group spot.inside key value)
      written-hs value = IsHs-written hash_of longest limit (count + from_bool is_new) after placed-hs key placed.is_key spot.group spot.inside placed.is_spot value

      pub written-array : (value : ℕ) → array_of hash_of longest limit (keyed_with after spot.group spot.inside key value) ≡ with_value (array_of hash_of longest limit before) key value
      written-array value =
          array-written hash_of longest limit (count + from_bool is_new) after placed-hs key placed.is_key spot.group spot.inside placed.is_spot value
          ∙ ap (λ (map : FinMap byte_order ℕ). record { limit = limit; map = map }) (is_counted.written value)
