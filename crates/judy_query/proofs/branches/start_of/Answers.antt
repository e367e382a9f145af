use Rattle.judy_query.proofs.branches.start_of.Goals as goal

pub start_at-requires-clause-byte : goal.start_at-requires-clause-byte
start_at-requires-clause-byte g c = (c.args.place, c.requires.place, c.byte_at.ensures)

pub returns : goal.returns
returns g c = (c.byte_at.result, c.byte_at.ensures, c.start_at.ensures)
