-- How many keys stand where, and which key stands at a place. (Manual: Count, ByCount.)
use Rattle.std.specs.Prelude.{ℕ, ◌-◌, ◌&&◌, ◌==◌, if◌then◌else◌, List, length, Option, None, filter, slice_get}
use Rattle.std.specs.declared.cmp.Ordering.{Ordering}
use Rattle.std.specs.Ordering.{is_lt, is_le}
use Rattle.std.specs.FinMap.{FinMap, keys}

module _ {K : Type 0} {order : K → K → Ordering} where
  -- The keys from one key to another, both included, in ascending order. Where the first is above the
  -- second there are none. (That corner is this project's own.)
  unfoldable pub keys_between : FinMap order ℕ → K → K → List K
  keys_between map from to = filter (λ key. is_le (order from key) && is_le (order key to)) (keys map)

  -- How many those are.
  unfoldable pub count : FinMap order ℕ → K → K → ℕ
  count map from to = length (keys_between map from to)

  -- How many keys are below the given one.
  unfoldable pub rank : FinMap order ℕ → K → ℕ
  rank map key = length (filter (λ other. is_lt (order other key)) (keys map))

  -- How many keys are at or below the given one.
  unfoldable pub count_up_to : FinMap order ℕ → K → ℕ
  count_up_to map key = length (filter (λ other. is_le (order other key)) (keys map))

  -- The key at a place among the keys in ascending order, counted from 0.
  unfoldable pub nth : FinMap order ℕ → ℕ → Option K
  nth map place = slice_get (keys map) place

  -- The n-th key, counted from 1; none for 0 or above the number of keys. (Those corners are this
  -- project's own.)
  unfoldable pub by_count : FinMap order ℕ → ℕ → Option K
  by_count map n = if n == 0 then None else slice_get (keys map) (n - 1)
