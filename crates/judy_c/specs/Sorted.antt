-- How a call of C that makes an array of a list of keys answers.
use Rattle.std.specs.Prelude.{◌≡◌, ℕ, zero, suc, ◌<◌, List, length, map}
use Rattle.judy_word.specs.Sorted.{ascending_from, IsSorted}
use Rattle.judy_word.specs.declared.sorted.SortedError.{SortedError}
use Rattle.judy_word.specs.declared.sorted.SortedError.TheVariants.{NotAscending, Full, NoMemory}
use Rattle.judy_c.specs.declared.walks.Pair.{Pair}

-- The limit of an array of C: more keys than any list has.
abbrev pub most_keys : ℕ
most_keys = 18446744073709551615

-- The keys of pairs, and the pairs as entries of a map.
abbrev pub keys_in : List Pair → List ℕ
keys_in pairs = map (λ (pair : Pair). pair.key) pairs

abbrev pub entries_of : List Pair → List (ℕ × ℕ)
entries_of pairs = map (λ (pair : Pair). (pair.key, pair.value)) pairs

-- The number by which a fault of a list is answered; the place of a key that isn't above the one before it is told.
abbrev pub IsRefused : SortedError → ℕ → ℕ → ℕ → Type 0
IsRefused NoMemory answer before after = (answer ≡ 2) × (after ≡ before)
IsRefused (Full at) answer before after = (answer ≡ 3) × (after ≡ before)
IsRefused (NotAscending at) answer before after = (answer ≡ 4) × (after ≡ at)

-- 1: the array is that of the keys, and may hold as many as there are words, but one. 2: they ascend, and there is no memory for them. 4: a key
-- isn't above the one before it, and the place of the first such key is told. In these two cases the array is as it was. 3 is never
-- answered, since no list is longer than that.
abbrev pub IsReplaced : List ℕ → Type 0 → Type 0 → ℕ → ℕ → ℕ → ℕ → Type 0
IsReplaced keys made same limit before zero after = ⊥
IsReplaced keys made same limit before (suc zero) after = made × (limit ≡ most_keys) × (after ≡ before)
IsReplaced keys made same limit before (suc (suc zero)) after = IsSorted most_keys keys × same × (after ≡ before)
IsReplaced keys made same limit before (suc (suc (suc zero))) after = ⊥
IsReplaced keys made same limit before (suc (suc (suc (suc zero)))) after = (ascending_from 0 keys ≡ after) × (after < length keys) × same
IsReplaced keys made same limit before (suc (suc (suc (suc (suc n))))) after = ⊥
