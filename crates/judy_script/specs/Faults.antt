-- The names of faults as they are printed.
use Rattle.std.specs.Prelude.{ℕ, List, codes}
use Rattle.judy_script.specs.declared.fault.RunFault.{RunFault}
use Rattle.judy_script.specs.declared.fault.RunFault.TheVariants.{Read, Write, TooLong}

-- A run fault's name in lower case, with `-` between its words.
abbrev pub fault_word : RunFault → List ℕ
fault_word Read = codes "read"
fault_word Write = codes "write"
fault_word TooLong = codes "too-long"
