use Rattle.std.proofs.Common.{◌≡◌, ◌+◌, drop}
use Rattle.judy_c.specs.SortedStrings.{whole_on}
use Rattle.judy_c.proofs.sorted_strings.count_whole.Given as goal

-- with those that are left as many are whole as of all
abbrev pub invariant-entries : goal.invariant-entries
invariant-entries l = l.at + whole_on l.rest (drop l.at l.entries) ≡ whole_on l.bytes l.entries
