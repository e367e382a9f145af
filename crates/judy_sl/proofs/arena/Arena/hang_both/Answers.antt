use Rattle.judy_sl.proofs.lemmas.inserts.Grafted.{twig-stays}
use Rattle.judy_sl.proofs.arena.Arena.hang_both.Goals as goal

pub hang-requires-2-clause-there : goal.hang-requires-2-clause-there
hang-requires-2-clause-there c = twig-stays _ _ _ _ _ _ _ c.in_ok-old.ensures.hung c.requires.new
