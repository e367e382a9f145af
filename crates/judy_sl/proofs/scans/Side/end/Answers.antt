use Rattle.judy_sl.proofs.lemmas.scans.ScanEntries.{above-end, below-end}
use Rattle.judy_sl.proofs.scans.Side.end.Goals as goal

pub returns-in-Above-clause-first : goal.returns-in-Above-clause-first
returns-in-Above-clause-first c = rw (c.in-Above.is, c.first_entry.ensures.key, c.array.ensures.map) (above-end c.args.level.now.map)

pub returns-in-Below-clause-first : goal.returns-in-Below-clause-first
returns-in-Below-clause-first c = rw (c.in-Below.is, c.last_entry.ensures.key, c.array-in-Below.ensures.map) (below-end c.args.level.now.map c.requires)
