-- The names of faults as they are printed.
use Rattle.std.specs.Prelude.{ℕ, List, codes}
use Rattle.judy_shelf.specs.declared.fault.DumpFault.{DumpFault}
use Rattle.judy_shelf.specs.declared.fault.DumpFault.TheVariants as dump
use Rattle.judy_shelf.specs.declared.fault.LoadFault.{LoadFault}
use Rattle.judy_shelf.specs.declared.fault.LoadFault.TheVariants as load

-- A dump fault's name in lower case.
abbrev pub dump_word : DumpFault → List ℕ
dump_word dump.NoMemory = codes "no-memory"
dump_word dump.Write = codes "write"

-- A load fault's name in lower case, with `-` between its words.
abbrev pub load_word : LoadFault → List ℕ
load_word load.Read = codes "read"
load_word load.Truncated = codes "truncated"
load_word load.BadMagic = codes "bad-magic"
load_word load.TooMany = codes "too-many"
load_word load.BadName = codes "bad-name"
load_word load.SameName = codes "same-name"
load_word load.BadKind = codes "bad-kind"
load_word load.BadLimit = codes "bad-limit"
load_word load.BadCount = codes "bad-count"
load_word load.BadKey = codes "bad-key"
load_word load.BadOrder = codes "bad-order"
load_word load.Trailing = codes "trailing"
load_word load.NoMemory = codes "no-memory"
load_word load.BadPrefix = codes "bad-prefix"
