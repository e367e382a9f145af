-- Decimal digits behind those of a number.
use Rattle.std.specs.Prelude.{ℕ, if◌then◌else◌, List, Option, Some, None}
use Rattle.std.specs.List.{list_all}
use Rattle.std.specs.Char.{is_ascii_digit}
use Rattle.std.specs.Str.Parse.{digits_value_after}

-- The number that bytes write behind the digits of a number, where all of them are digits.
abbrev pub number_after : ℕ → List ℕ → Option ℕ
number_after number digits = if list_all is_ascii_digit digits then Some (digits_value_after 10 number digits) else None
