use Rattle.std.proofs.Common.{ap}
use Rattle.judy_sl.specs.Arenas.{node_of, child_at}
use Rattle.judy_sl.proofs.lemmas.seats.PlaceKinds.{taken-level, level-read}
use Rattle.judy_sl.proofs.lemmas.moves.Settled.{level-is, level-taken}
use Rattle.judy_sl.proofs.arena.Arena.entries_of.Goals as goal

pub words-requires : goal.words-requires
words-requires c =
    let there = rw c.in-Some.is at c.requires in
    taken-level c.args.self.now c.in-Some.at (level-is c.args.self.now c.in-Some.at there) (level-taken (child_at c.args.self.now c.in-Some.at) there)

pub returns-in-Some : goal.returns-in-Some
returns-in-Some c =
    let there = rw c.in-Some.is at c.requires in
    rw c.in-Some.is (ap node_of (level-read c.args.self.now c.in-Some.at (level-is c.args.self.now c.in-Some.at there) c.words.result.now c.words.ensures))
