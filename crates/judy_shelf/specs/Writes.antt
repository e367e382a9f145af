-- What a sink has taken where a text was written to it, whole or in part.
use Rattle.std.specs.Prelude.{◌≡◌, ℕ, ◌+◌, List, Option, Result, Ok, Err}
use Rattle.judy_model.specs.DumpText.{Version, dump_of}
use Rattle.judy_pipe.specs.Pipe.{grown, GrewByFront}
use Rattle.judy_shelf.specs.declared.fault.DumpFault.{DumpFault}
use Rattle.judy_shelf.specs.declared.fault.DumpFault.TheVariants.{NoMemory, Write}
use Rattle.judy_shelf.specs.declared.kind.Kind.{Kind}
use Rattle.judy_shelf.specs.declared.kind.Kind.TheVariants.{Judy1, JudyL, JudySl, JudyHs}
use Rattle.judy_shelf.specs.Shelves.{Entries, store_of}
use Rattle.judy_shelf.specs.Sorted.{HoldsBytes}

-- What a sink tells: the bytes that it took, where it tells them, and how often it failed.
pub record Sunk : Type 0 where
  pub taken : Option (List ℕ)
  pub failures : ℕ

-- The same put together.
abbrev pub sunk : Option (List ℕ) → ℕ → Sunk
sunk taken failures = record { taken = taken; failures = failures }

-- A text was written whole.
abbrev pub WroteAll : List ℕ → Sunk → Sunk → Type 0
WroteAll text before after = (after.taken ≡ grown before.taken text) × (after.failures ≡ before.failures)

-- A front of a text was written, and then the sink failed.
abbrev pub WroteFront : List ℕ → Sunk → Sunk → Type 0
WroteFront text before after = GrewByFront before.taken text after.taken × (after.failures ≡ before.failures + 1)

-- One or the other, by what was answered.
abbrev pub Wrote : {X E : Type 0} → List ℕ → Sunk → Result X E → Sunk → Type 0
Wrote text before (Ok done) after = WroteAll text before after
Wrote text before (Err fault) after = WroteFront text before after

-- The dump of a shelf in a format was written whole, or a front of it; or nothing, where a judyhs array is to be sorted and
-- there is no memory for it.
abbrev pub Dumped : Version → Entries → Sunk → Result (Unit {0}) DumpFault → Sunk → Type 0
Dumped version entries before (Ok done) after = WroteAll (dump_of version (store_of entries)) before after
Dumped version entries before (Err Write) after = WroteFront (dump_of version (store_of entries)) before after
Dumped version entries before (Err NoMemory) after = HoldsBytes entries × (after ≡ before)

-- The number of a kind in dumps.
abbrev pub kind_number : Kind → ℕ
kind_number Judy1 = 1
kind_number JudyL = 2
kind_number JudySl = 3
kind_number JudyHs = 4
