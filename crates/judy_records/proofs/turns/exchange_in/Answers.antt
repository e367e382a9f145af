use Rattle.judy_records.proofs.TurnLemmas.{exchanged-are, exchanged-here, exchanged-other, exchanged-elsewhere}
use Rattle.judy_records.proofs.turns.exchange_in.Goals as goal

pub returns-clause-turned : goal.returns-clause-turned
returns-clause-turned c = exchanged-are c.args.row.now c.requires.turned c.args.page c.args.turn c.requires.page c.requires.turn

pub returns-clause-here : goal.returns-clause-here
returns-clause-here c = exchanged-here c.args.row.now c.requires.turned c.args.page c.args.turn c.requires.page c.requires.turn

pub returns-clause-other : goal.returns-clause-other
returns-clause-other c = exchanged-other c.args.row.now c.requires.turned c.args.page c.args.turn c.requires.page c.requires.turn

pub returns-clause-elsewhere : goal.returns-clause-elsewhere
returns-clause-elsewhere c = exchanged-elsewhere c.args.row.now c.requires.turned c.args.page c.args.turn c.requires.page c.requires.turn
