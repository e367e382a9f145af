use Rattle.judy_sl.proofs.lemmas.scans.ScanEntries.{above-next, below-prev}
use Rattle.judy_sl.proofs.scans.Side.around.Goals as goal

pub returns-in-Above-clause-nearest : goal.returns-in-Above-clause-nearest
returns-in-Above-clause-nearest c = rw (c.in-Above.is, c.around.ensures.key, c.array.ensures.map) (above-next c.args.level.now.map c.args.piece)

pub returns-in-Below-clause-nearest : goal.returns-in-Below-clause-nearest
returns-in-Below-clause-nearest c = rw (c.in-Below.is, c.prev_entry.ensures.key, c.array-in-Below.ensures.map) (below-prev c.args.level.now.map c.args.piece)
