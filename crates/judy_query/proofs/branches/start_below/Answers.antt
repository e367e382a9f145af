use Rattle.judy_query.proofs.branches.start_below.Goals as goal

pub start_at-requires-clause-byte : goal.start_at-requires-clause-byte
start_at-requires-clause-byte g c = (c.args.place, c.requires.place, c.byte_below.ensures)

pub returns : goal.returns
returns g c = (c.byte_below.result, c.byte_below.ensures, c.start_at.ensures)
