use Rattle.std.proofs.Common.{sym, ◌∙◌}
use Rattle.judy_sl.proofs.lemmas.seats.PlaceKinds.{taken-tail}
use Rattle.judy_sl.proofs.lemmas.moves.Settled.{settled-start, entry-taken, spare-tail}
use Rattle.judy_sl.proofs.arena.Arena.settle.Goals as goal

pub returns-then-is_level : goal.returns-then-is_level
returns-then-is_level c = settled-start c.args.self.now c.requires.kept

pub is_spare-requires : goal.is_spare-requires
is_spare-requires c =
    taken-tail c.args.self.now c.args.at (sym c.is_level.ensures ∙ c.if-is_level.false)
    (entry-taken c.args.self.now c.requires.kept.is_arena c.args.from c.args.at c.requires.entry)

pub move_tail-requires-clause-free : goal.move_tail-requires-clause-free
move_tail-requires-clause-free c =
    spare-tail c.args.self.now c.args.at (sym c.is_level.ensures ∙ c.if-is_level.false)
    (entry-taken c.args.self.now c.requires.kept.is_arena c.args.from c.args.at c.requires.entry) (c.is_spare.ensures c.if-not-is_spare.false)

pub returns-then-not-is_spare : goal.returns-then-not-is_spare
returns-then-not-is_spare c = settled-start c.args.self.now c.requires.kept
