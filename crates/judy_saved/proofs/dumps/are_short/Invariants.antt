use Rattle.std.proofs.Common.{◌≡◌, true, take}
use Rattle.judy_hs.specs.Listed.{entries_in}
use Rattle.judy_saved.specs.Dumps.{is_short}
use Rattle.judy_saved.proofs.dumps.are_short.Given as goal

-- the keys that came are short
abbrev pub invariant-entries : goal.invariant-entries
invariant-entries l = is_short (take l.entry-index (entries_in l.entries)) ≡ true
