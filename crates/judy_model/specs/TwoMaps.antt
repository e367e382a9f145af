-- What two maps have together: union, intersection and differences. (The manual has none of these.)
use Rattle.std.specs.Prelude.{ℕ, not, ◌++◌, IsTrue, IsFalse, ◌↔◌}
use Rattle.std.specs.declared.cmp.Ordering.{Ordering}
use Rattle.std.specs.FinMap.{FinMap, entries, from_entries, retain_keys, contains_key}

module _ {K : Type 0} {order : K → K → Ordering} where
  -- The keys that the one or the other has; at a key that both have, the value is the one's.
  unfoldable pub union : FinMap order ℕ → FinMap order ℕ → FinMap order ℕ
  union one other = from_entries (entries one ++ entries other)

  -- The keys that both have, with the values of the one.
  unfoldable pub intersection : FinMap order ℕ → FinMap order ℕ → FinMap order ℕ
  intersection one other = retain_keys one (contains_key other)

  -- The keys of the one that the other doesn't have.
  unfoldable pub difference : FinMap order ℕ → FinMap order ℕ → FinMap order ℕ
  difference one other = retain_keys one (λ key. not (contains_key other key))

  -- The keys that exactly one of them has.
  unfoldable pub symmetric_difference : FinMap order ℕ → FinMap order ℕ → FinMap order ℕ
  symmetric_difference one other = union (difference one other) (difference other one)

  -- Each key of the one is a key of the other. Their values don't matter.
  abbrev pub IsSubset : FinMap order ℕ → FinMap order ℕ → Type 0
  IsSubset one other = (key : K) → IsTrue (contains_key one key) → IsTrue (contains_key other key)

  -- No key of the one is a key of the other.
  abbrev pub IsDisjoint : FinMap order ℕ → FinMap order ℕ → Type 0
  IsDisjoint one other = (key : K) → IsTrue (contains_key one key) → IsFalse (contains_key other key)

  -- They have the same keys.
  abbrev pub HaveSameKeys : FinMap order ℕ → FinMap order ℕ → Type 0
  HaveSameKeys one other = (key : K) → IsTrue (contains_key one key) ↔ IsTrue (contains_key other key)
