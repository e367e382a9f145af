-- How a call of C that makes an array of a list of strings answers. The strings stand one behind the other in the bytes of a page, and the length
-- and the value of each in its entries.
use Rattle.std.specs.Prelude.{◌≡◌, ℕ, zero, suc, ◌<◌, ◌⊎◌, nat_le, if◌then◌else◌, List, [], ◌∷◌, length, take, drop, map}
use Rattle.std.specs.FinMap as finmap
use Rattle.judy_model.specs.Keys.{byte_order}
use Rattle.judy_model.specs.Arrays.{ArrayOf}
use Rattle.judy_sl.specs.Strings.{IsString}
use Rattle.judy_sl.specs.Sorted.{IsFault}
use Rattle.judy_sl.specs.declared.sorted.SlSortedError.{SlSortedError}
use Rattle.judy_sl.specs.declared.sorted.SlSortedError.TheVariants.{BadKey, NotAscending, Full, NoMemory}
use Rattle.judy_c.specs.declared.key_walks.KeyEntry.{KeyEntry}
use Rattle.judy_c.specs.KeyWalks.{Pairs, Page}

-- The strings with their values, each as long as its entry tells.
abbrev pub pairs_on : List ℕ → List KeyEntry → Pairs
pairs_on bytes [] = []
pairs_on bytes (entry ∷ entries) = (take entry.length bytes, entry.value) ∷ pairs_on (drop entry.length bytes) entries

-- The strings.
abbrev pub strings_on : List ℕ → List KeyEntry → List (List ℕ)
strings_on bytes entries = map (λ pair. pair.0) (pairs_on bytes entries)

-- How many of the first ones don't go beyond the bytes.
abbrev pub whole_on : List ℕ → List KeyEntry → ℕ
whole_on bytes [] = 0
whole_on bytes (entry ∷ entries) = if nat_le entry.length (length bytes) then suc (whole_on (drop entry.length bytes) entries) else 0

-- None goes beyond them.
abbrev pub AreWhole : Page → Type 0
AreWhole page = whole_on page.bytes page.entries ≡ length page.entries

-- Why there is no list of them: one goes beyond the bytes, the first that does.
abbrev pub IsCut : Page → SlSortedError → Type 0
IsCut page (BadKey at) = (at ≡ whole_on page.bytes page.entries) × (at < length page.entries)
IsCut page (NotAscending at) = ⊥
IsCut page (Full at) = ⊥
IsCut page NoMemory = ⊥

-- The most strings that an array of C holds.
abbrev pub most_strings : ℕ
most_strings = 4294967295

-- The same, or there is no memory for a list.
abbrev pub IsUnlisted : Page → SlSortedError → Type 0
IsUnlisted page (BadKey at) = IsCut page (BadKey at)
IsUnlisted page (NotAscending at) = ⊥
IsUnlisted page (Full at) = ⊥
IsUnlisted page NoMemory = Unit {0}

-- Why no array is made of them: one goes beyond the bytes; or none does, and a string doesn't fit, or all fit and there is no memory.
abbrev pub IsUnfit : Page → SlSortedError → Type 0
IsUnfit page fault = IsCut page fault ⊎ (AreWhole page × IsFault IsString most_strings (strings_on page.bytes page.entries) fault)

-- The number by which that is answered, and the place that is told: of a string that is no key, or isn't above the one before it.
abbrev pub number_of : SlSortedError → ℕ
number_of (BadKey at) = 4
number_of (NotAscending at) = 4
number_of (Full at) = 3
number_of NoMemory = 2

abbrev pub place_of : SlSortedError → ℕ → ℕ
place_of (BadKey at) before = at
place_of (NotAscending at) before = at
place_of (Full at) before = before
place_of NoMemory before = before

-- 1: the array has those strings with their values. Else it is as it was, and the number and the place are those of a fault.
abbrev pub IsMadeOf : Page → ArrayOf byte_order → Type 0 → ℕ → ℕ → ℕ → Type 0
IsMadeOf page array same before zero after = ⊥
IsMadeOf page array same before (suc zero) after =
    AreWhole page × (finmap.entries array.map ≡ pairs_on page.bytes page.entries) × (array.limit ≡ most_strings) × (after ≡ before)
IsMadeOf page array same before (suc (suc n)) after =
    (fault : SlSortedError) × IsUnfit page fault × (number_of fault ≡ suc (suc n)) × (after ≡ place_of fault before) × same
