use Rattle.std.proofs.Common.{sym, subst, ◌∙◌}
use Rattle.judy_sl.specs.World.{World}
use Rattle.judy_sl.specs.Arenas.{world_of}
use Rattle.judy_sl.specs.Ways.{levels_passed}
use Rattle.judy_sl.specs.Listed.{AreListed}
use Rattle.judy_sl.proofs.lemmas.inserts.Filled.{world-same}
use Rattle.judy_sl.proofs.lemmas.inserts.Inserted.{way-none}
use Rattle.judy_sl.proofs.lemmas.counts.BegunLevels.{meets-way, are_begun}
use Rattle.judy_sl.proofs.lemmas.counts.ListWays.{come_but}
use Rattle.judy_sl.proofs.lemmas.counts.WayLevels.{first-stays}
use Rattle.judy_sl.proofs.firsts.insert_counted.Goals as goal

pub list_noted-requires-clause-noted : goal.list_noted-requires-clause-noted
list_noted-requires-clause-noted c =
    let none = way-none c.args.arena.now c.args.key.now c.args.way c.requires.way c.requires.new in
    let meets = meets-way c.args.arena.now c.args.key.now c.args.way c.requires.way c.requires.new ∙ sym c.clashes.ensures in (
      levels_passed (world_of c.args.arena.now) c.args.key.now,
      c.requires.passed,
      first-stays c.args.arena.now c.insert_first.new.arena c.in_ok-made.ensures.stays c.args.key.now c.requires.is_key,
      come_but c.args.arena.now c.insert_first.new.arena c.requires.kept.is_arena c.requires.kept.led c.args.key.now c.requires.is_key c.in_ok-made.ensures.added.change none
          c.in_ok-made.ensures.stays c.args.lists.now c.requires.listed,
      λ comes. are_begun c.args.arena.now c.insert_first.new.arena c.requires.kept.is_arena c.requires.kept.led c.args.key.now c.requires.is_key c.in_ok-made.ensures.added.change none
          c.in_ok-made.ensures.stays c.clashes.result meets,
    )

pub list_noted-requires-clause-is_arena : goal.list_noted-requires-clause-is_arena
list_noted-requires-clause-is_arena c = c.in_ok-made.ensures.added.is_arena

pub returns-in_err-made-clause-listed : goal.returns-in_err-made-clause-listed
returns-in_err-made-clause-listed c =
    subst (λ (w : World). AreListed w c.args.lists.now) (sym (world-same c.args.arena.now c.insert_first.new.arena c.in_err-made.ensures.refused)) c.requires.listed
