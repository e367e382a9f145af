-- What an insert of C into an array over strings, or over byte strings, does.
use Rattle.std.specs.Prelude.{◌≡◌, ◌≤◌, List, ℕ, length, Option, Some, None, Result, Ok, Err, IsTrue, IsFalse}
use Rattle.std.specs.Borrow.{MutBor}
use Rattle.std.specs.FinMap.{get}
use Rattle.judy_model.specs.Keys.{byte_order}
use Rattle.judy_model.specs.Arrays.{ArrayOf, ins, is_full}
use Rattle.judy_c.specs.declared.answers.InsertRefusal.{InsertRefusal}
use Rattle.judy_c.specs.declared.answers.InsertRefusal.TheVariants.{NoMemory, Full, BadKey}

-- Bytes that are a key of an array over byte strings: no more than memory that is lent may have.
abbrev pub IsShort : List ℕ → Type 0
IsShort key = length key ≤ 9223372036854775807

-- BadKey: the bytes are no key. Full: they are one that is absent, and the array holds as many keys as its limit. NoMemory: they are
-- one that is absent, and the array isn't full.
abbrev pub IsRefused : (List ℕ → Type 0) → ArrayOf byte_order → List ℕ → InsertRefusal → Type 0
IsRefused IsKey array key BadKey = IsKey key → ⊥
IsRefused IsKey array key Full = IsKey key × IsTrue (is_full array key)
IsRefused IsKey array key NoMemory = IsKey key × (get array.map key ≡ None) × IsFalse (is_full array key)

-- The slot is the key's, behind which stands its value; or there is none, for one of these reasons.
abbrev pub IsMade : (List ℕ → Type 0) → ArrayOf byte_order → List ℕ → Result (MutBor ℕ) InsertRefusal → Type 0
IsMade IsKey array key (Ok slot) = IsKey key × IsFalse (is_full array key) × (Some slot.now ≡ get (ins array.map key) key)
IsMade IsKey array key (Err refusal) = IsRefused IsKey array key refusal

-- The same of what is told; it is one of the two.
abbrev pub IsMadeAs : (List ℕ → Type 0) → ArrayOf byte_order → List ℕ → Option (Result (MutBor ℕ) InsertRefusal) → Type 0
IsMadeAs IsKey array key None = ⊥
IsMadeAs IsKey array key (Some made) = IsMade IsKey array key made
