-- When an insert is refused.
use Rattle.std.specs.Prelude.{◌≡◌, ◌<◌, ◌≤◌, ℕ, List, length, None, IsTrue, IsFalse}
use Rattle.std.specs.FinMap.{get}
use Rattle.judy_model.specs.Keys.{byte_order}
use Rattle.judy_model.specs.Arrays.{ArrayOf, is_full}
use Rattle.judy_hs.specs.declared.error.HsError.{HsError}
use Rattle.judy_hs.specs.declared.error.HsError.TheVariants.{TooLong, Full, NoMemory}

-- TooLong: the key has more bytes than the longest may have. Full: it hasn't, is absent, and the array holds as many keys as its limit.
-- NoMemory: it hasn't, is absent, and the array isn't full.
abbrev pub IsRefusal : ℕ → ArrayOf byte_order → List ℕ → HsError → Type 0
IsRefusal longest array key TooLong = longest < length key
IsRefusal longest array key Full = (length key ≤ longest) × IsTrue (is_full array key)
IsRefusal longest array key NoMemory = (length key ≤ longest) × (get array.map key ≡ None) × IsFalse (is_full array key)
