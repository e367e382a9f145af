use Rattle.std.proofs.Common.{arith}
use Rattle.judy_records.proofs.ListHolds.{shift-fits, start-fits}
use Rattle.judy_records.proofs.records.Records.end_of_needed.Goals as goal

pub start_of-requires-clause-shift : goal.start_of-requires-clause-shift
start_of-requires-clause-shift c = shift-fits c.self.inside c.self.invariant

pub start_of-requires-clause-fits : goal.start_of-requires-clause-fits
start_of-requires-clause-fits c = start-fits c.self.inside c.self.invariant c.loop-number.number (omega (arith, c.loop-number-test.true, c.loop-number.auto.number-end, c.self.inside.pages.ok))

pub size_of-requires : goal.size_of-requires
size_of-requires c = shift-fits c.self.inside c.self.invariant
