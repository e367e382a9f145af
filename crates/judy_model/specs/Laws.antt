-- The laws of maps that hold at words and at byte strings alike, each stated of an order of keys.
use Rattle.std.specs.Prelude.{◌≡◌, ◌≢◌, ℕ, ◌+◌, ◌-◌, ◌<◌, ◌≤◌, Bool, IsTrue, if◌then◌else◌, ◌⊎◌, ◌↔◌, length, Option, Some, None, unwrap_or, Contains}
use Rattle.std.specs.declared.cmp.Ordering.{Ordering}
use Rattle.std.specs.Ordering.{is_le}
use Rattle.std.specs.List.Sorted.{IsStrictlySortedBy}
use Rattle.std.specs.FinMap.{FinMap, contains_key, get, insert, len}
use Rattle.judy_model.specs.Arrays.{ins, write, del}
use Rattle.judy_model.specs.Neighbours.{first, next, last, prev}
use Rattle.judy_model.specs.Nearest.{IsLeast, IsGreatest, IsFirst, IsNext, IsLast, IsPrev}
use Rattle.judy_model.specs.Counts.{keys_between, count, rank, count_up_to, nth, by_count}

module _ {K : Type 0} (order : K → K → Ordering) where
  -- ---- the nearest key

  -- Two answers that are both the least of the keys that pass a test are equal.
  abbrev pub LeastIsOne : Type 0
  LeastIsOne = (passes : K → Bool) (one other : Option K) → IsLeast order passes one → IsLeast order passes other → one ≡ other

  -- Two answers that are both the greatest are equal.
  abbrev pub GreatestIsOne : Type 0
  GreatestIsOne = (passes : K → Bool) (one other : Option K) → IsGreatest order passes one → IsGreatest order passes other → one ≡ other

  -- `first` answers the least key of the map at or above a key.
  abbrev pub FirstIsNearest : Type 0
  FirstIsNearest = (map : FinMap order ℕ) (from : K) → IsFirst order (contains_key map) from (first map from)

  -- `next` answers the least key of the map above a key.
  abbrev pub NextIsNearest : Type 0
  NextIsNearest = (map : FinMap order ℕ) (from : K) → IsNext order (contains_key map) from (next map from)

  -- `last` answers the greatest key of the map at or below a key.
  abbrev pub LastIsNearest : Type 0
  LastIsNearest = (map : FinMap order ℕ) (from : K) → IsLast order (contains_key map) from (last map from)

  -- `prev` answers the greatest key of the map below a key.
  abbrev pub PrevIsNearest : Type 0
  PrevIsNearest = (map : FinMap order ℕ) (from : K) → IsPrev order (contains_key map) from (prev map from)

  -- ---- counts

  -- The keys between two keys are exactly the keys of the map at or above the one and at or below the other.
  abbrev pub KeysBetweenAreThose : Type 0
  KeysBetweenAreThose =
      (map : FinMap order ℕ) (from to key : K) → Contains (keys_between map from to) key ↔ (IsTrue (contains_key map key) × IsTrue (is_le (order from key)) × IsTrue (is_le (order key to)))

  -- They stand in strictly ascending order, so that each stands once.
  abbrev pub KeysBetweenAscend : Type 0
  KeysBetweenAscend = (map : FinMap order ℕ) (from to : K) → IsStrictlySortedBy order (keys_between map from to)

  -- A count is how many they are.
  abbrev pub CountIsHowMany : Type 0
  CountIsHowMany = (map : FinMap order ℕ) (from to : K) → count map from to ≡ length (keys_between map from to)

  -- No key is below the given one.
  abbrev pub IsLeastKey : K → Type 0
  IsLeastKey least = (key : K) → IsTrue (is_le (order least key))

  -- The n-th key is a key of the map, and n keys stand from the least key there can be up to it.
  abbrev pub NthHasItsCount : K → Type 0
  NthHasItsCount least = (map : FinMap order ℕ) (n : ℕ) (key : K) → by_count map n ≡ Some key → IsTrue (contains_key map key) × (count map least key ≡ n)

  -- A key of the map is the n-th, for the number n of the keys up to it.
  abbrev pub CountHasItsKey : K → Type 0
  CountHasItsKey least = (map : FinMap order ℕ) (key : K) → IsTrue (contains_key map key) → by_count map (count map least key) ≡ Some key

  -- There is an n-th key for each n from 1 to the number of keys, and for no other.
  abbrev pub NthIsNoneOutside : Type 0
  NthIsNoneOutside = (map : FinMap order ℕ) (n : ℕ) → (by_count map n ≡ None) ↔ ((n ≡ 0) ⊎ (len map < n))

  -- ---- ranks and places

  -- The key at a place is a key of the map, and so many keys are below it.
  abbrev pub NthHasItsRank : Type 0
  NthHasItsRank = (map : FinMap order ℕ) (place : ℕ) (key : K) → nth map place ≡ Some key → IsTrue (contains_key map key) × (rank map key ≡ place)

  -- A key of the map stands at the place that is its rank.
  abbrev pub RankHasItsKey : Type 0
  RankHasItsKey = (map : FinMap order ℕ) (key : K) → IsTrue (contains_key map key) → nth map (rank map key) ≡ Some key

  -- There is a key at each place below the number of keys, and at no other.
  abbrev pub NoPlaceIsOutside : Type 0
  NoPlaceIsOutside = (map : FinMap order ℕ) (place : ℕ) → (nth map place ≡ None) ↔ (len map ≤ place)

  -- At the rank of a key, in the map or not, stands the first key at or above it: just the keys before that place are below.
  abbrev pub FirstStandsAtTheRank : Type 0
  FirstStandsAtTheRank = (map : FinMap order ℕ) (key : K) → (nth map (rank map key) ≡ first map key) × (rank map key ≤ len map)

  -- At the count up to a key stands the next key above it: just the keys before that place are at or below.
  abbrev pub NextStandsAtTheCount : Type 0
  NextStandsAtTheCount = (map : FinMap order ℕ) (key : K) → (nth map (count_up_to map key) ≡ next map key) × (count_up_to map key ≤ len map)

  -- The count up to a key is the count from the least key there can be.
  abbrev pub CountUpToIsFromTheLeast : K → Type 0
  CountUpToIsFromTheLeast least = (map : FinMap order ℕ) (key : K) → count_up_to map key ≡ count map least key

  -- ---- changes

  -- To insert a key that is there changes nothing.
  abbrev pub InsKeepsPresent : Type 0
  InsKeepsPresent = (map : FinMap order ℕ) (key : K) → IsTrue (contains_key map key) → ins map key ≡ map

  -- After an insert the key is there, with the value that it had, or with 0 where it was not there.
  abbrev pub InsGivesSlot : Type 0
  InsGivesSlot = (map : FinMap order ℕ) (key : K) → get (ins map key) key ≡ Some (unwrap_or (get map key) 0)

  -- To write through the slot that an insert gave is to insert the key with that value.
  abbrev pub WriteAfterIns : Type 0
  WriteAfterIns = (map : FinMap order ℕ) (key : K) (value : ℕ) → write (ins map key) key value ≡ insert map key value

  -- After a write the key has the value written.
  abbrev pub WriteGivesValue : Type 0
  WriteGivesValue = (map : FinMap order ℕ) (key : K) (value : ℕ) → get (write map key value) key ≡ Some value

  -- After a delete the key is not there.
  abbrev pub DelTakesOut : Type 0
  DelTakesOut = (map : FinMap order ℕ) (key : K) → get (del map key) key ≡ None

  -- To delete a key that is not there changes nothing.
  abbrev pub DelKeepsAbsent : Type 0
  DelKeepsAbsent = (map : FinMap order ℕ) (key : K) → get map key ≡ None → del map key ≡ map

  -- A change at one key leaves what every other key has.
  abbrev pub LeavesOthers : (FinMap order ℕ → K → FinMap order ℕ) → Type 0
  LeavesOthers change = (map : FinMap order ℕ) (key other : K) → key ≢ other → get (change map key) other ≡ get map other

  -- A change adds the key where it is not there.
  abbrev pub AddsOne : (FinMap order ℕ → K → FinMap order ℕ) → Type 0
  AddsOne change = (map : FinMap order ℕ) (key : K) → len (change map key) ≡ (if contains_key map key then len map else len map + 1)

  -- A change takes the key away where it is there.
  abbrev pub TakesOne : (FinMap order ℕ → K → FinMap order ℕ) → Type 0
  TakesOne change = (map : FinMap order ℕ) (key : K) → len (change map key) ≡ (if contains_key map key then len map - 1 else len map)
