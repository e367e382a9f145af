-- Where a key of an array stands.
use Rattle.std.specs.Prelude.{ℕ, List}
use Rattle.judy_model.specs.KeyLengths.{IsBytesKeyTo}
use Rattle.judy_hs.specs.declared.groups.KeyPlace.{KeyPlace}
use Rattle.judy_hs.specs.Keyed.{Keyed, IsSpot}
use Rattle.judy_hs.specs.Parts.{part_of}

-- It is one that the array may hold, and stands there under the word by which its group finds it.
pub record StandsAt (hash_of : List ℕ → ℕ) (longest : ℕ) (keyed : Keyed) (key : List ℕ) (spot : KeyPlace) : Type 0 where
  pub is_key : IsBytesKeyTo longest key
  pub is_spot : IsSpot keyed (part_of hash_of key) key spot.group spot.inside
