-- What a scan of C that lends the slot of the key found answers.
use Rattle.std.specs.Prelude.{ℕ, List, Option, Result, Ok, Err, unwrap_or}
use Rattle.std.specs.Borrow.{MutBor}
use Rattle.std.specs.FinMap.{FinMap}
use Rattle.std.specs.Option.{option_copied_mut}
use Rattle.std.specs.Result.{result_ok}
use Rattle.judy_model.specs.Keys.{byte_order}
use Rattle.judy_c.specs.declared.answers.Missed.{Missed}
use Rattle.judy_c.specs.declared.answers.Missed.TheVariants.{NoKey, BadKey, TooSmall}
use Rattle.judy_c.specs.Answers.{IsSaid}
use Rattle.judy_c.specs.KeyScans.{slot_says}

-- The number of what it lends.
abbrev pub number_found : Result (MutBor ℕ) Missed → ℕ
number_found (Ok slot) = 1
number_found (Err NoKey) = 0
number_found (Err BadKey) = 4
number_found (Err TooSmall) = 5

-- The value behind a slot, where there is one, and else the one that stood where the caller is told.
abbrev pub behind : Option (MutBor ℕ) → ℕ → ℕ
behind slot other = unwrap_or (option_copied_mut slot) other

-- A scan says this of the buffer and the count before it, both after it, and the value behind the slot that it lends, whatever stood where the
-- caller is told.
abbrev pub IsFoundSlot : FinMap byte_order ℕ → (List ℕ → Option (List ℕ)) → List ℕ × ℕ → List ℕ × ℕ → Result (MutBor ℕ) Missed → Type 0
IsFoundSlot map look before after found =
    (other : ℕ)
    → IsSaid
    (slot_says map look (record { buffer = before.0; count = before.1; value = other }) (record { buffer = after.0; count = after.1; value = behind (result_ok found) other }))
    (number_found found)
