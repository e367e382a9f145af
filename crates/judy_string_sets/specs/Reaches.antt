-- What bytes share with a key that was found.
use Rattle.std.specs.Prelude.{◌≡◌, ℕ, ◌<◌, List, length, Option, Some}
use Rattle.std.specs.FinMap.{get}
use Rattle.judy_model.specs.DumpText.{shared_length}
use Rattle.judy_string_sets.specs.Walks.{Strings}
use Rattle.judy_string_sets.specs.declared.longest.Reached.{Reached}
use Rattle.judy_string_sets.specs.declared.longest.Reached.TheVariants.{Whole, Part}

-- There is a key, and the bytes share all of it, or a part.
abbrev pub IsReached : Strings → Option (List ℕ) → List ℕ → Reached → Type 0
IsReached map found bytes (Whole len value) = (key : List ℕ) × (found ≡ Some key) × (shared_length key bytes ≡ length key) × (len ≡ length key) × (get map key ≡ Some value)
IsReached map found bytes (Part len) = (key : List ℕ) × (found ≡ Some key) × (len ≡ shared_length key bytes) × (len < length key)
