use Rattle.judy_sl.specs.Arenas.{map_of}
use Rattle.judy_sl.proofs.lemmas.pieces.Strings.{within-more}
use Rattle.judy_sl.proofs.cursor.JudySl.cursor.Goals as goal

pub short_cursor-requires-clause-short : goal.short_cursor-requires-clause-short
short_cursor-requires-clause-short c = rw (← c.self.view_is) (within-more (map_of c.self.inside.arena) c.self.invariant.0.short c.self.invariant.0.longest_fits)
