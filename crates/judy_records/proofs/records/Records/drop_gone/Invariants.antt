use Rattle.judy_records.specs.Memory.{HoldsSame}
use Rattle.judy_records.proofs.records.Records.drop_gone.Given as goal

-- the same stands at each place
abbrev pub invariant-loop : goal.invariant-loop
invariant-loop l = HoldsSame l.fn.self l.self
