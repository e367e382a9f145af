-- When an insert is refused.
use Rattle.std.specs.Prelude.{◌≡◌, ℕ, List, None, IsTrue, IsFalse}
use Rattle.std.specs.FinMap.{get}
use Rattle.judy_model.specs.Keys.{byte_order}
use Rattle.judy_model.specs.Arrays.{ArrayOf, is_full}
use Rattle.judy_sl.specs.declared.error.SlError.{SlError}
use Rattle.judy_sl.specs.declared.error.SlError.TheVariants.{BadKey, Full, NoMemory}

-- Why an insert is refused. BadKey: the bytes are no key. Full: they are one that is absent, and the array holds
-- as many keys as its limit. NoMemory: they are one that is absent, and the array isn't full.
abbrev pub IsRefusal : (List ℕ → Type 0) → ArrayOf byte_order → List ℕ → SlError → Type 0
IsRefusal IsKey array key BadKey = IsKey key → ⊥
IsRefusal IsKey array key Full = IsKey key × IsTrue (is_full array key)
IsRefusal IsKey array key NoMemory = IsKey key × (get array.map key ≡ None) × IsFalse (is_full array key)

-- Why bytes that an array doesn't have can't become a key of it, where it has so many keys. BadKey: they are no key. Full:
-- they are one, and it has as many keys as its limit.
abbrev pub IsUnfit : (List ℕ → Type 0) → ℕ → ℕ → List ℕ → SlError → Type 0
IsUnfit IsKey count limit key BadKey = IsKey key → ⊥
IsUnfit IsKey count limit key Full = IsKey key × (count ≡ limit)
IsUnfit IsKey count limit key NoMemory = ⊥
