-- Ranges of keys, from some bytes on as long as an end reaches.
use Rattle.std.specs.Prelude.{◌≡◌, ℕ, ◌≤◌, Bool, not, ◌&&◌, List, IsTrue, Option, Some, length, take}
use Rattle.std.specs.Ordering.{is_le}
use Rattle.std.specs.FinMap.{FinMap, retain_keys}
use Rattle.judy_model.specs.Keys.{byte_order}
use Rattle.judy_model.specs.Prefixes.{begins_with}
use Rattle.judy_string_sets.specs.declared.ranges.End.{End}
use Rattle.judy_string_sets.specs.declared.ranges.End.TheVariants.{Last, Prefix}

-- Whether an end reaches up to a key.
abbrev pub reaches : End → List ℕ → List ℕ → Bool
reaches Last bytes key = is_le (byte_order key bytes)
reaches Prefix bytes key = begins_with bytes key

-- The keys of the range, and all others.
abbrev pub part : FinMap byte_order ℕ → List ℕ → (List ℕ → Bool) → FinMap byte_order ℕ
part map from within = retain_keys map (λ key. is_le (byte_order from key) && within key)

abbrev pub others : FinMap byte_order ℕ → List ℕ → (List ℕ → Bool) → FinMap byte_order ℕ
others map from within = retain_keys map (λ key. not (is_le (byte_order from key) && within key))

-- What it reaches stands before all else that isn't below the bytes.
abbrev pub IsFront : List ℕ → (List ℕ → Bool) → Type 0
IsFront from within =
    (low high : List ℕ) → IsTrue (is_le (byte_order from low)) → IsTrue (is_le (byte_order low high)) → IsTrue (within high) → IsTrue (within low)

-- A buffer begins with the key that was found, which has so many bytes.
pub record IsFrontIn (buffer : List ℕ) (found : Option (List ℕ)) (len : ℕ) : Type 0 where
  pub is : found ≡ Some (take len buffer)
  pub inside : len ≤ length buffer
