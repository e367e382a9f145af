-- What a call of C that gives a key of an array over strings, or over byte strings, a value answers and does.
use Rattle.std.specs.Prelude.{◌≡◌, ℕ, zero, suc, List, Option, Some, None, Result, Ok, Err, IsTrue, IsFalse}
use Rattle.std.specs.FinMap.{get, contains_key}
use Rattle.judy_model.specs.Keys.{byte_order}
use Rattle.judy_model.specs.Arrays.{ArrayOf, is_full}
use Rattle.judy_sl.specs.Lends.{with_value}
use Rattle.judy_c.specs.declared.answers.InsertRefusal.{InsertRefusal}
use Rattle.judy_c.specs.declared.answers.InsertRefusal.TheVariants.{NoMemory, Full, BadKey}
use Rattle.judy_c.specs.KeyInserts.{IsRefused}

-- The value that the key had is answered, or none where it was absent, and the key has the new one then. Where it is refused nothing changes,
-- as `same` says.
abbrev pub IsStored : (List ℕ → Type 0) → ArrayOf byte_order → List ℕ → ℕ → Type 0 → Result (Option ℕ) InsertRefusal → ArrayOf byte_order → Type 0
IsStored IsKey before key value same (Ok was) after =
    IsKey key × IsFalse (is_full before key) × (was ≡ get before.map key) × (after ≡ with_value before key value)
IsStored IsKey before key value same (Err refusal) after = IsRefused IsKey before key refusal × same

-- The same by a number. 0: the key was there. 1: it was absent. In both cases it has the value then. 2: there is no memory for it. 3: the
-- array is full. 4: the bytes are no key. In these cases nothing changes, as `same` says. There are no other numbers.
abbrev pub IsPut : (List ℕ → Type 0) → ArrayOf byte_order → List ℕ → ℕ → Type 0 → ℕ → ArrayOf byte_order → Type 0
IsPut IsKey before key value same zero after =
    IsKey key × IsTrue (contains_key before.map key) × (after ≡ with_value before key value)
IsPut IsKey before key value same (suc zero) after =
    IsKey key × IsFalse (contains_key before.map key) × IsFalse (is_full before key) × (after ≡ with_value before key value)
IsPut IsKey before key value same (suc (suc zero)) after = IsRefused IsKey before key NoMemory × same
IsPut IsKey before key value same (suc (suc (suc zero))) after = IsRefused IsKey before key Full × same
IsPut IsKey before key value same (suc (suc (suc (suc zero)))) after = IsRefused IsKey before key BadKey × same
IsPut IsKey before key value same (suc (suc (suc (suc (suc n))))) after = ⊥

-- The number of what an insert of a value answers.
abbrev pub number_of : Result (Option ℕ) InsertRefusal → ℕ
number_of (Ok (Some was)) = 0
number_of (Ok None) = 1
number_of (Err NoMemory) = 2
number_of (Err Full) = 3
number_of (Err BadKey) = 4

-- The value that was there.
abbrev pub was_of : Result (Option ℕ) InsertRefusal → Option ℕ
was_of (Ok was) = was
was_of (Err refusal) = None

-- It is told where the number is 0, and else what stands there stays.
abbrev pub IsToldOld : Option ℕ → ℕ → ℕ → ℕ → Type 0
IsToldOld was zero before after = was ≡ Some after
IsToldOld was (suc n) before after = after ≡ before
