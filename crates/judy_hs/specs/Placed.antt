-- What an insert makes of the groups of an array.
use Rattle.std.specs.Prelude.{◌≡◌, ℕ, Bool, true, false, not, List, None}
use Rattle.std.specs.FinMap.{get, contains_key}
use Rattle.judy_model.specs.Arrays.{ins}
use Rattle.judy_model.specs.KeyLengths.{IsBytesKeyTo}
use Rattle.judy_hs.specs.Keyed.{Keyed, IsSpot}
use Rattle.judy_hs.specs.Kept.{IsKeyed, map_of}
use Rattle.judy_hs.specs.Parts.{part_of}
use Rattle.judy_hs.specs.declared.groups.KeyPlace.{KeyPlace}
use Rattle.judy_hs.specs.declared.error.HsError.{HsError}
use Rattle.judy_hs.specs.declared.error.HsError.TheVariants.{Full, NoMemory}

-- Why there is no place for an absent key.
abbrev pub why_not : Bool → HsError
why_not true = Full
why_not false = NoMemory

module _ (hash_of : List ℕ → ℕ) (longest : ℕ) (before after : Keyed) (key : List ℕ) where
  -- The key has a place, and no other key went or came: it is new there where it was absent, with the value 0.
  pub record IsPlaced (spot : KeyPlace) (is_new : Bool) : Type 0 where
    pub is_keyed : IsKeyed hash_of longest after
    pub is_key : IsBytesKeyTo longest key
    pub is_spot : IsSpot after (part_of hash_of key) key spot.group spot.inside
    pub map_is : map_of hash_of longest after ≡ ins (map_of hash_of longest before) key
    pub new_is : is_new ≡ not (contains_key (map_of hash_of longest before) key)

  -- The key is absent and has no place, since the array is full or memory was refused, and all other keys stay.
  pub record IsUnplaced (is_full : Bool) (error : HsError) : Type 0 where
    pub is_keyed : IsKeyed hash_of longest after
    pub map_is : map_of hash_of longest after ≡ map_of hash_of longest before
    pub absent : get (map_of hash_of longest before) key ≡ None
    pub error_is : error ≡ why_not is_full
