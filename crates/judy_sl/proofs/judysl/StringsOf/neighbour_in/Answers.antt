use Rattle.judy_sl.proofs.judysl.StringsOf.neighbour_in.Goals as goal

pub nearest_in-requires-clause-room : goal.nearest_in-requires-clause-room
nearest_in-requires-clause-room g c = rw (← c.self.view_is) at c.requires.room
