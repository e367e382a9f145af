-- Lists of strings with values of which arrays are made at once.
use Rattle.std.specs.Prelude.{◌≡◌, ℕ, zero, suc, ◌≤◌, IsTrue, IsFalse, List, [], ◌∷◌, length, map, Option, None, Some}
use Rattle.std.specs.Borrow.{Bor}
use Rattle.std.specs.FinMap.{FinMap, insert}
use Rattle.judy_model.specs.Keys.{byte_order}
use Rattle.judy_model.specs.DumpGrammar.{is_above}
use Rattle.judy_sl.specs.declared.sorted.SlSortedError.{SlSortedError}
use Rattle.judy_sl.specs.declared.sorted.SlSortedError.TheVariants.{BadKey, NotAscending, Full, NoMemory}

-- The bytes of each string, with its value.
abbrev pub pairs_in : List (Bor (List ℕ) × ℕ) → List (List ℕ × ℕ)
pairs_in pairs = map (λ pair. (pair.0.now, pair.1)) pairs

-- The bytes of each string.
abbrev pub strings_in : List (Bor (List ℕ) × ℕ) → List (List ℕ)
strings_in pairs = map (λ pair. pair.0.now) pairs

-- The map with pairs written, one after the other.
abbrev pub with_pairs : FinMap byte_order ℕ → List (List ℕ × ℕ) → FinMap byte_order ℕ
with_pairs map [] = map
with_pairs map (pair ∷ pairs) = with_pairs (insert map pair.0 pair.1) pairs

module _ (IsKey : List ℕ → Type 0) where
  -- ---- a string and the one before it, if there is one

  -- It is a key, and above that one.
  abbrev pub GoesOn : Option (List ℕ) → List ℕ → Type 0
  GoesOn before key = IsKey key × IsTrue (is_above byte_order before key)

  -- It is a key, and not above that one.
  abbrev pub StaysBelow : Option (List ℕ) → List ℕ → Type 0
  StaysBelow before key = IsKey key × IsFalse (is_above byte_order before key)

  -- It is no key.
  abbrev pub IsNoKey : Option (List ℕ) → List ℕ → Type 0
  IsNoKey before key = IsKey key → ⊥

  -- ---- lists of strings

  -- They are keys that strictly ascend, from behind one on.
  abbrev pub Ascend : Option (List ℕ) → List (List ℕ) → Type 0
  Ascend before [] = Unit {0}
  Ascend before (key ∷ keys) = GoesOn before key × Ascend (Some key) keys

  -- They do so up to a place, and of the string there and the one before it this holds.
  abbrev pub AscendTo : (Option (List ℕ) → List ℕ → Type 0) → Option (List ℕ) → List (List ℕ) → ℕ → Type 0
  AscendTo Is before [] at = ⊥
  AscendTo Is before (key ∷ keys) zero = Is before key
  AscendTo Is before (key ∷ keys) (suc at) = GoesOn before key × AscendTo Is (Some key) keys at

  -- They are keys that strictly ascend, and no more than a limit.
  pub record IsSorted (limit : ℕ) (keys : List (List ℕ)) : Type 0 where
    pub ascending : Ascend None keys
    pub within : length keys ≤ limit

  -- What is wrong with the first string that doesn't fit; those before it ascend and are no more than the limit. BadKey: it is no key.
  -- NotAscending: it isn't above the one before it. Full: it goes on, and is one more than the limit. NoMemory: nothing is.
  abbrev pub IsFault : ℕ → List (List ℕ) → SlSortedError → Type 0
  IsFault limit keys (BadKey at) = AscendTo IsNoKey None keys at × (at ≤ limit)
  IsFault limit keys (NotAscending at) = AscendTo StaysBelow None keys at × (at ≤ limit)
  IsFault limit keys (Full at) = AscendTo GoesOn None keys at × (at ≡ limit)
  IsFault limit keys NoMemory = IsSorted limit keys
