-- The strings that levels and tails keep: of any length that memory has, none of their bytes zero. An array itself takes shorter ones alone.
use Rattle.std.specs.Prelude.{ℕ, List}
use Rattle.judy_model.specs.KeyLengths.{IsStringKeyTo}
use Rattle.judy_model.specs.Tables.{string_keys_to}
use Rattle.judy_model.specs.declared.keys.TheConstants.{LONGEST_STRING}

abbrev pub IsString : List ℕ → Type 0
IsString = IsStringKeyTo LONGEST_STRING

-- All of them.
unfoldable pub all_strings : List (List ℕ)
all_strings = string_keys_to LONGEST_STRING
