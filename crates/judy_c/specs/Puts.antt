-- How a call of C tells whether it put a key in.
use Rattle.std.specs.Prelude.{◌≡◌, ℕ, zero, suc, IsTrue, IsFalse, Option, Some, MatchOption}
use Rattle.std.specs.Borrow.{MutBor}
use Rattle.std.specs.FinMap.{FinMap, contains_key, get}
use Rattle.judy_model.specs.Keys.{word_order}
use Rattle.judy_model.specs.Arrays.{ArrayOf, with_map, ins}
use Rattle.judy_word.specs.Writes.{with_value}

-- Of a set. 0: the key was there, and nothing changes. 1: it was absent, and is put in. 2: it is absent, there is no memory for it, and
-- nothing changes. `same` says so. The limit stays in each case.
abbrev pub IsPut : ArrayOf word_order → ℕ → Type 0 → ℕ → ArrayOf word_order → Type 0
IsPut before key same zero after = IsTrue (contains_key before.map key) × same
IsPut before key same (suc zero) after = IsFalse (contains_key before.map key) × (after ≡ with_map before (ins before.map key))
IsPut before key same (suc (suc zero)) after = IsFalse (contains_key before.map key) × same
IsPut before key same (suc (suc (suc n))) after = ⊥

-- Of a map, with a value. 0: the key was there. 1: it was absent. In both cases it has the value then. 2: it is absent, there is no
-- memory for it, and nothing changes, as `same` says. The limit stays in each case.
abbrev pub IsStored : ArrayOf word_order → ℕ → ℕ → Type 0 → ℕ → ArrayOf word_order → Type 0
IsStored before key value same zero after = IsTrue (contains_key before.map key) × (after ≡ with_value before key value)
IsStored before key value same (suc zero) after = IsFalse (contains_key before.map key) × (after ≡ with_value before key value)
IsStored before key value same (suc (suc zero)) after = IsFalse (contains_key before.map key) × same
IsStored before key value same (suc (suc (suc n))) after = ⊥

-- Of a map: the slot of the key, behind which stands its value; or none where it is absent and there is no memory for it.
abbrev pub IsMade : FinMap word_order ℕ → ℕ → Option (MutBor ℕ) → Type 0
IsMade before key slot = MatchOption slot (IsFalse (contains_key before key)) (λ lent. Some lent.now ≡ get (ins before key) key)
