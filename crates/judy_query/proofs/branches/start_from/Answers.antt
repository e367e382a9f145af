use Rattle.judy_query.proofs.branches.start_from.Goals as goal

pub start_at-requires-clause-byte : goal.start_at-requires-clause-byte
start_at-requires-clause-byte g c = (c.args.place, c.requires.place, c.byte_from.ensures)

pub returns : goal.returns
returns g c = (c.byte_from.result, c.byte_from.ensures, c.start_at.ensures)
