use Rattle.std.proofs.Common.{◌≡◌, true, take}
use Rattle.std.specs.FinMap.{entries}
use Rattle.judy_saved.specs.Dumps.{is_short}
use Rattle.judy_saved.proofs.dumps.are_sayable.Given as goal

-- the keys that were asked are short
abbrev pub invariant-keys : goal.invariant-keys
invariant-keys g l = is_short (take l.place (entries l.strings.map)) ≡ true
