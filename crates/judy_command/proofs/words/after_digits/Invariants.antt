use Rattle.std.proofs.Common.{◌≡◌, ◌+◌, ◌-◌, ◌≤◌, ◌<◌, ◌^◌, true, length, take}
use Rattle.std.specs.List.{list_all}
use Rattle.std.specs.Char.{is_ascii_digit}
use Rattle.std.specs.Str.Parse.{digits_value_after}
use Rattle.judy_command.proofs.words.after_digits.Given as goal

-- the bytes so far are digits, and write the number
abbrev pub invariant-loop-byte : goal.invariant-loop-byte
invariant-loop-byte l = record {
  within : l.byte-index ≤ length l.digits;
  digits : list_all is_ascii_digit (take l.byte-index l.digits) ≡ true;
  number : l.number ≡ digits_value_after 10 l.fn.number (take l.byte-index l.digits);
  small : l.number < 10 ^ (19 - length l.digits + l.byte-index);
}
