use Rattle.std.proofs.Common.{rules}
use Rattle.judy_sl.proofs.scans.JudySl.prev.Goals as goal

pub returns-clause-key : goal.returns-clause-key
returns-clause-key c = search rules

pub returns-clause-value : goal.returns-clause-value
returns-clause-value c = search rules
