use Rattle.std.proofs.Common.{◌≡◌, ◌≤◌, length, take}
use Rattle.std.specs.List.{list_all}
use Rattle.std.specs.Char.{is_ascii_digit}
use Rattle.judy_command.proofs.words.are_digits.Given as goal

-- whether the bytes so far are digits
abbrev pub invariant-loop-byte : goal.invariant-loop-byte
invariant-loop-byte l = record {
  within : l.byte-index ≤ length l.bytes;
  are : l.are ≡ list_all is_ascii_digit (take l.byte-index l.bytes);
}
