-- What joins the ends of a run as the definitions have them to its pipes and its faults.
use Rattle.std.specs.Prelude.{◌≡◌, ℕ, List, Option, Result, Ok, Err}
use Rattle.judy_model.specs.RunEnds as model
use Rattle.judy_pipe.specs.Pipe.{grown}
use Rattle.judy_script.specs.declared.fault.RunFault.{RunFault}
use Rattle.judy_script.specs.declared.fault.RunFault.TheVariants.{Read, Write, TooLong}

-- What a pipe gave or took since a time are bytes of which this holds, where it tells its bytes; of one that
-- doesn't, only that there are such bytes.
abbrev pub Since : Option (List ℕ) → Option (List ℕ) → (List ℕ → Type 0) → Type 0
Since known_before known Holds = (bytes : List ℕ) × (known ≡ grown known_before bytes) × Holds bytes

-- A fault as the definitions name it.
abbrev pub fault_of : RunFault → model.Fault
fault_of Read = model.read
fault_of Write = model.write
fault_of TooLong = model.too_long

-- How many failures a run adds to its reader, and to its writer.
abbrev pub read_failures : Result (Unit {0}) RunFault → ℕ
read_failures (Ok _) = 0
read_failures (Err Read) = 1
read_failures (Err Write) = 0
read_failures (Err TooLong) = 0

abbrev pub write_failures : Result (Unit {0}) RunFault → ℕ
write_failures (Ok _) = 0
write_failures (Err Read) = 0
write_failures (Err Write) = 1
write_failures (Err TooLong) = 0
