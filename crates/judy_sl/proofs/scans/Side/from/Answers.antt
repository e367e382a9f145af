use Rattle.judy_sl.proofs.lemmas.scans.ScanEntries.{above-first, below-last}
use Rattle.judy_sl.proofs.scans.Side.from.Goals as goal

pub returns-in-Above-clause-nearest : goal.returns-in-Above-clause-nearest
returns-in-Above-clause-nearest c = rw (c.in-Above.is, c.first_entry.ensures.key, c.array.ensures.map) (above-first c.args.level.now.map c.args.piece)

pub returns-in-Below-clause-nearest : goal.returns-in-Below-clause-nearest
returns-in-Below-clause-nearest c = rw (c.in-Below.is, c.last_entry.ensures.key, c.array-in-Below.ensures.map) (below-last c.args.level.now.map c.args.piece)
