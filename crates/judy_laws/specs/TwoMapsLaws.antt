-- The laws of two maps, and of the parts of one, that hold at words and at byte strings alike, each stated of an order of keys.
use Rattle.std.specs.Prelude.{◌≡◌, ℕ, ◌+◌, ◌&&◌, if◌then◌else◌, ◌↔◌, None}
use Rattle.std.specs.declared.cmp.Ordering.{Ordering}
use Rattle.std.specs.Ordering.{is_lt, is_le, is_ge}
use Rattle.std.specs.Option.{option_or}
use Rattle.std.specs.FinMap.{FinMap, contains_key, get, empty, len}
use Rattle.judy_model.specs.Counts.{count, rank}
use Rattle.judy_model.specs.TwoMaps.{union, intersection, difference, symmetric_difference, IsSubset, IsDisjoint, HaveSameKeys}
use Rattle.judy_model.specs.Ranges.{within, outside, below, from_on}

module _ {K : Type 0} (order : K → K → Ordering) where
  -- ---- look-ups

  -- A union answers what the one has, and else what the other has.
  abbrev pub UnionAnswers : Type 0
  UnionAnswers = (one other : FinMap order ℕ) (key : K) → get (union one other) key ≡ option_or (get one key) (get other key)

  -- An intersection answers what the one has, at the keys of the other alone.
  abbrev pub IntersectionAnswers : Type 0
  IntersectionAnswers = (one other : FinMap order ℕ) (key : K) → get (intersection one other) key ≡ (if contains_key other key then get one key else None)

  -- A difference answers what the one has, at every other key.
  abbrev pub DifferenceAnswers : Type 0
  DifferenceAnswers = (one other : FinMap order ℕ) (key : K) → get (difference one other) key ≡ (if contains_key other key then None else get one key)

  -- A symmetric difference answers nothing at a key that both have, and else what the one has that has the key.
  abbrev pub SymmetricDifferenceAnswers : Type 0
  SymmetricDifferenceAnswers =
      (one other : FinMap order ℕ) (key : K) → get (symmetric_difference one other) key ≡ (if contains_key one key then (if contains_key other key then None else get one key) else get other key)

  -- ---- how many keys

  -- A union and an intersection have together as many keys as the two maps.
  abbrev pub UnionCounts : Type 0
  UnionCounts = (one other : FinMap order ℕ) → len (union one other) + len (intersection one other) ≡ len one + len other

  -- A difference and an intersection have together as many keys as the one.
  abbrev pub DifferenceCounts : Type 0
  DifferenceCounts = (one other : FinMap order ℕ) → len (difference one other) + len (intersection one other) ≡ len one

  -- A symmetric difference has as many keys as both differences.
  abbrev pub SymmetricDifferenceCounts : Type 0
  SymmetricDifferenceCounts = (one other : FinMap order ℕ) → len (symmetric_difference one other) ≡ len (difference one other) + len (difference other one)

  -- ---- relations

  -- The one is a subset of the other exactly where their intersection has as many keys as the one.
  abbrev pub SubsetHasAll : Type 0
  SubsetHasAll = (one other : FinMap order ℕ) → IsSubset one other ↔ (len (intersection one other) ≡ len one)

  -- They are disjoint exactly where their intersection is empty.
  abbrev pub DisjointHasNone : Type 0
  DisjointHasNone = (one other : FinMap order ℕ) → IsDisjoint one other ↔ (intersection one other ≡ empty)

  -- They have the same keys exactly where each is a subset of the other.
  abbrev pub SameKeysAreSubsets : Type 0
  SameKeysAreSubsets = (one other : FinMap order ℕ) → HaveSameKeys one other ↔ (IsSubset one other × IsSubset other one)

  -- With the same keys they have as many.
  abbrev pub SameKeysCount : Type 0
  SameKeysCount = (one other : FinMap order ℕ) → HaveSameKeys one other → len one ≡ len other

  -- ---- a union with nothing, and with itself

  -- A union with the empty map, on either side, is the map.
  abbrev pub UnionWithEmpty : Type 0
  UnionWithEmpty = (map : FinMap order ℕ) → (union map empty ≡ map) × (union empty map ≡ map)

  -- A union of a map with itself is the map.
  abbrev pub UnionWithItself : Type 0
  UnionWithItself = (map : FinMap order ℕ) → union map map ≡ map

  -- ---- parts of a map

  -- What is within answers what the map has from the one key to the other, both included.
  abbrev pub WithinAnswers : Type 0
  WithinAnswers = (map : FinMap order ℕ) (from to key : K) → get (within map from to) key ≡ (if is_le (order from key) && is_le (order key to) then get map key else None)

  -- What is outside answers what the map has at every other key.
  abbrev pub OutsideAnswers : Type 0
  OutsideAnswers = (map : FinMap order ℕ) (from to key : K) → get (outside map from to) key ≡ (if is_le (order from key) && is_le (order key to) then None else get map key)

  -- What is below answers what the map has below a key.
  abbrev pub BelowAnswers : Type 0
  BelowAnswers = (map : FinMap order ℕ) (at key : K) → get (below map at) key ≡ (if is_lt (order key at) then get map key else None)

  -- What is from a key on answers what the map has at or above it.
  abbrev pub FromOnAnswers : Type 0
  FromOnAnswers = (map : FinMap order ℕ) (at key : K) → get (from_on map at) key ≡ (if is_ge (order key at) then get map key else None)

  -- Within are as many keys as a count counts.
  abbrev pub WithinCounts : Type 0
  WithinCounts = (map : FinMap order ℕ) (from to : K) → len (within map from to) ≡ count map from to

  -- Within and outside are together all keys.
  abbrev pub OutsideCounts : Type 0
  OutsideCounts = (map : FinMap order ℕ) (from to : K) → len (within map from to) + len (outside map from to) ≡ len map

  -- Below a key are as many as its rank.
  abbrev pub BelowCounts : Type 0
  BelowCounts = (map : FinMap order ℕ) (at : K) → len (below map at) ≡ rank map at

  -- Below a key and from it on are together all keys.
  abbrev pub FromOnCounts : Type 0
  FromOnCounts = (map : FinMap order ℕ) (at : K) → len (below map at) + len (from_on map at) ≡ len map

  -- What is below a key and what is from it on join to the map again.
  abbrev pub HalvesJoin : Type 0
  HalvesJoin = (map : FinMap order ℕ) (at : K) → union (below map at) (from_on map at) ≡ map
