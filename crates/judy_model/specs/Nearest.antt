-- What it is to be the nearest of some keys: the relations that the laws of neighbours speak of.
use Rattle.std.specs.Prelude.{ℕ, ◌^◌, Bool, ◌&&◌, not, nat_lt, IsTrue, IsFalse, Option, Some, None}
use Rattle.std.specs.declared.cmp.Ordering.{Ordering}
use Rattle.std.specs.Ordering.{is_lt, is_le, is_gt, is_ge}
use Rattle.std.specs.FinMap.{FinMap, contains_key}
use Rattle.judy_model.specs.Keys.{word_order}

module _ {K : Type 0} (order : K → K → Ordering) where
  -- The answer is the least of the keys that pass the test: one that passes, and is at or before each that
  -- does; none where no key passes.
  abbrev pub IsLeast : (K → Bool) → Option K → Type 0
  IsLeast passes None = (key : K) → IsFalse (passes key)
  IsLeast passes (Some least) = IsTrue (passes least) × ((key : K) → IsTrue (passes key) → IsTrue (is_le (order least key)))

-- The greatest is the least in the order turned round.
abbrev pub IsGreatest : {K : Type 0} → (K → K → Ordering) → (K → Bool) → Option K → Type 0
IsGreatest order = IsLeast (λ left right. order right left)

-- The four neighbours of a key among the members of a set, which a test gives.
module _ {K : Type 0} (order : K → K → Ordering) (member : K → Bool) (from : K) where
  -- The least at or above the key.
  abbrev pub IsFirst : Option K → Type 0
  IsFirst = IsLeast order (λ key. member key && is_ge (order key from))

  -- The least above it.
  abbrev pub IsNext : Option K → Type 0
  IsNext = IsLeast order (λ key. member key && is_gt (order key from))

  -- The greatest at or below it.
  abbrev pub IsLast : Option K → Type 0
  IsLast = IsGreatest order (λ key. member key && is_le (order key from))

  -- The greatest below it.
  abbrev pub IsPrev : Option K → Type 0
  IsPrev = IsGreatest order (λ key. member key && is_lt (order key from))

-- Whether a number is a word that is no key of the map.
abbrev pub is_empty_word : FinMap word_order ℕ → ℕ → Bool
is_empty_word map word = nat_lt word (2 ^ 64) && not (contains_key map word)
