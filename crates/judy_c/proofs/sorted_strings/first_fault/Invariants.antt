use Rattle.std.proofs.Common.{◌≡◌, ◌≤◌, ◌+◌, None, drop, length}
use Rattle.std.specs.Option.{option_copied}
use Rattle.judy_sl.specs.Strings.{IsString}
use Rattle.judy_sl.proofs.lemmas.made.SortedRuns.{Run}
use Rattle.judy_c.specs.SortedStrings.{strings_on, whole_on, most_strings}
use Rattle.judy_c.proofs.sorted_strings.first_fault.Given as goal

-- as many as were read are keys that ascend up to the last one, and no more than an array holds; those that are left are in the rest of the bytes
abbrev pub invariant-entries : goal.invariant-entries
invariant-entries l = record {
  within : l.at ≤ most_strings;
  run : Run IsString None (strings_on l.bytes l.entries) l.at (option_copied l.last);
  left : drop l.at (strings_on l.bytes l.entries) ≡ strings_on l.rest (drop l.at l.entries);
  whole : l.at + whole_on l.rest (drop l.at l.entries) ≡ length l.entries;
}
