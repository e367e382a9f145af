use Rattle.std.proofs.Common.{◌≡◌, ℕ}
use Rattle.judy_sl.specs.Arenas.{world_of, IsArena}
use Rattle.judy_sl.specs.World.{level}
use Rattle.judy_sl.specs.Readers.{found_from}
use Rattle.judy_sl.proofs.lemmas.readers.TextSteps.{how_long}
use Rattle.judy_sl.proofs.arena.Arena.get_read.Given as goal

-- What is found from the level of what is left is what is found of the key.
abbrev pub invariant-pieces : goal.invariant-pieces
invariant-pieces l = record {
  is_arena : IsArena l.self;
  seat : ℕ;
  is_level : world_of l.self seat ≡ level l.level.map;
  found : found_from (world_of l.self) 0 l.fn.reader.left ≡ found_from (world_of l.self) seat l.key.left;
}

abbrev pub decreases-pieces : goal.decreases-pieces
decreases-pieces l = how_long l.key.left
