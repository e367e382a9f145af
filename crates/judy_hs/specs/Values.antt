-- What is known of values that a program holds.
use Rattle.std.specs.Prelude.{◌≡◌, ℕ, List, Option, Some}
use Rattle.judy_model.specs.Keys.{IsWord}

-- Each value that is found is a word.
abbrev pub AreWords : (List ℕ → Option ℕ) → Type 0
AreWords find = (key : List ℕ) (value : ℕ) → find key ≡ Some value → IsWord value
