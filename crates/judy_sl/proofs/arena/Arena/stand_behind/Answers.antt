use Rattle.std.proofs.Common.{ℕ, suc, List, Option, IfSome, sym, ap, ◌∙◌, subst, arith}
use Rattle.judy_sl.specs.Arenas.{world_of, child_at, node_of, HasText}
use Rattle.judy_sl.specs.Children.{keys_told}
use Rattle.judy_sl.specs.Counted.{StandsWith}
use Rattle.judy_sl.specs.Strings.{IsString}
use Rattle.judy_sl.proofs.lemmas.seats.Linked.{taken_of}
use Rattle.judy_sl.proofs.lemmas.counts.KeysTold.{level_stands}
use Rattle.judy_sl.proofs.lemmas.counts.ListedLevels.{list_there}
use Rattle.judy_sl.proofs.lemmas.readers.LevelSteps.{some_there, level_count, level_left, tail_string, tail_left}
use Rattle.judy_sl.proofs.arena.Arena.stand_behind.Goals as goal

pub child-requires : goal.child-requires
child-requires c = taken_of c.args.self.now c.args.at (some_there (world_of c.args.self.now) (suc c.args.at) c.args.place c.requires.within)

pub returns-in-Level-clause-stands : goal.returns-in-Level-clause-stands
returns-in-Level-clause-stands c =
    let arena = c.args.self.now in
    let words = c.in-Level.level.now in
    let told = keys_told (child_at arena c.args.at) in
    record {
      told = subst (StandsWith (world_of arena) words.map) (sym c.keys_told.ensures) (level_stands arena c.requires.counted c.args.at told words c.in-Level.ensures);
      list = list_there arena c.args.lists.now c.requires.listed c.args.at told words c.in-Level.ensures _ c.list_of.ensures;
      within = let count = level_count arena c.requires.is_arena (suc c.args.at) words.map (ap node_of c.in-Level.ensures) in omega (arith, count, c.requires.within);
    }

pub returns-in-Level-clause-left : goal.returns-in-Level-clause-left
returns-in-Level-clause-left c = level_left c.args.self.now c.requires.is_arena (suc c.args.at) c.in-Level.level.now.map (ap node_of c.in-Level.ensures) c.args.place

pub returns-in-Tail-clause-stands : goal.returns-in-Tail-clause-stands
returns-in-Tail-clause-stands c =
    let text = subst HasText c.in-Tail.ensures (c.requires.is_arena.texts c.args.at) in
    subst (λ (left : Option (List ℕ)). IfSome left IsString) (sym c.new.ensures)
    (tail_string c.args.self.now c.requires.is_arena c.args.at c.in-Tail.tail.0 c.in-Tail.tail.1 (ap node_of c.in-Tail.ensures) text c.words.result.now c.words.ensures)

pub returns-in-Tail-clause-left : goal.returns-in-Tail-clause-left
returns-in-Tail-clause-left c =
    let text = subst HasText c.in-Tail.ensures (c.requires.is_arena.texts c.args.at) in
    (λ t. record { left = c.new.ensures t; value = c.value.ensures t })
    ∙ tail_left c.args.self.now c.requires.is_arena c.args.at c.in-Tail.tail.0 c.in-Tail.tail.1 (ap node_of c.in-Tail.ensures) text c.words.result.now c.words.ensures
    c.args.place c.requires.within
