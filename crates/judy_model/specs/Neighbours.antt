-- The neighbours of a key among keys that stand in ascending order, and those of a map.
-- (Manual: First, Next, Last, Prev.)
use Rattle.std.specs.Prelude.{ℕ, List, reverse, Option, find}
use Rattle.std.specs.declared.cmp.Ordering.{Ordering}
use Rattle.std.specs.Ordering.{is_lt, is_le, is_gt, is_ge}
use Rattle.std.specs.FinMap.{FinMap, keys}

module _ {K : Type 0} (order : K → K → Ordering) where
  -- The least of the keys that isn't below the given one.
  abbrev pub first_of : List K → K → Option K
  first_of ascending from = find (λ key. is_ge (order key from)) ascending

  -- The least that is above it.
  abbrev pub next_of : List K → K → Option K
  next_of ascending from = find (λ key. is_gt (order key from)) ascending

  -- The greatest that isn't above it.
  abbrev pub last_of : List K → K → Option K
  last_of ascending from = find (λ key. is_le (order key from)) (reverse ascending)

  -- The greatest that is below it.
  abbrev pub prev_of : List K → K → Option K
  prev_of ascending from = find (λ key. is_lt (order key from)) (reverse ascending)

-- The same over the keys of a map.
module _ {K : Type 0} {order : K → K → Ordering} where
  -- The least key at or above the given one, a key of the map or not. (Manual: First.)
  unfoldable pub first : FinMap order ℕ → K → Option K
  first map = first_of order (keys map)

  -- The least key above it. (Manual: Next.)
  unfoldable pub next : FinMap order ℕ → K → Option K
  next map = next_of order (keys map)

  -- The greatest key at or below it. (Manual: Last.)
  unfoldable pub last : FinMap order ℕ → K → Option K
  last map = last_of order (keys map)

  -- The greatest key below it. (Manual: Prev.)
  unfoldable pub prev : FinMap order ℕ → K → Option K
  prev map = prev_of order (keys map)
