use Rattle.std.proofs.Common.{◌≡◌, ◌+◌, ◌++◌, drop}
use Rattle.judy_sl.specs.Sorted.{pairs_in}
use Rattle.judy_c.specs.SortedStrings.{pairs_on, whole_on}
use Rattle.judy_c.proofs.sorted_strings.listed.Given as goal

-- with the strings that are left the list is that of all
abbrev pub invariant-entries : goal.invariant-entries
invariant-entries l = record {
  listed : pairs_in l.pairs.items ++ pairs_on l.rest (drop l.at l.entries) ≡ pairs_on l.bytes l.entries;
  whole : l.at + whole_on l.rest (drop l.at l.entries) ≡ whole_on l.bytes l.entries;
}
