use Rattle.std.proofs.Common.{true}
use Rattle.judy_sl.specs.Arenas.{world_of}
use Rattle.judy_sl.specs.Ways.{levels_passed}
use Rattle.judy_sl.specs.Counted.{AreStepped}
use Rattle.judy_sl.proofs.lemmas.counts.CountedKeys.{few-more, added-counted}
use Rattle.judy_sl.proofs.lemmas.counts.Growing.{counted-same}
use Rattle.judy_sl.proofs.lemmas.counts.Stepping.{can-come, come-counted}
use Rattle.judy_sl.proofs.lemmas.counts.LedLevels.{stays_stepped}
use Rattle.judy_sl.proofs.lemmas.counts.WayLevels.{first-stays}
use Rattle.judy_sl.proofs.arena.Arena.add_counted.Goals.{After-count_noted}
use Rattle.judy_sl.proofs.arena.Arena.add_counted.Goals as goal

pub count_noted-requires-clause-is_arena : goal.count_noted-requires-clause-is_arena
count_noted-requires-clause-is_arena c = c.in_ok-made.ensures.added.is_arena

-- The levels that the way passed are still the first on it, and count the key not yet.
pub count_noted-requires-clause-noted : goal.count_noted-requires-clause-noted
count_noted-requires-clause-noted c =
    let passed = levels_passed (world_of c.args.self.now) c.args.key.now in (
      passed,
      c.requires.passed,
      first-stays c.args.self.now c.add.new.self c.in_ok-made.ensures.stays c.args.key.now c.requires.is_key,
      can-come c.add.new.self c.in_ok-made.ensures.added.is_arena (c.in_ok-made.ensures.added.led c.requires.led)
          (few-more c.args.self.now c.add.new.self c.args.key.now c.in_ok-made.made 4294967295 c.requires.is_key c.in_ok-made.ensures.added c.requires.few) passed
          c.in_ok-made.ensures.counted,
    )

stepped : (c : After-count_noted) → AreStepped true c.add.new.self c.count_noted.new.self (levels_passed (world_of c.args.self.now) c.args.key.now)
stepped c =
    c.count_noted.ensures (levels_passed (world_of c.args.self.now) c.args.key.now) c.requires.passed
    (first-stays c.args.self.now c.add.new.self c.in_ok-made.ensures.stays c.args.key.now c.requires.is_key)

pub returns-clause-added : goal.returns-clause-added
returns-clause-added c =
    let is = stepped (goal.at.returns-clause-added c).After-count_noted in
    added-counted c.args.self.now c.add.new.self c.count_noted.new.self c.args.key.now is.world is.is_arena c.in_ok-made.made c.in_ok-made.ensures.added

pub returns-clause-counted : goal.returns-clause-counted
returns-clause-counted c =
    come-counted c.add.new.self c.in_ok-made.ensures.added.is_arena (c.in_ok-made.ensures.added.led c.requires.led)
    (few-more c.args.self.now c.add.new.self c.args.key.now c.in_ok-made.made 4294967295 c.requires.is_key c.in_ok-made.ensures.added c.requires.few)
    (levels_passed (world_of c.args.self.now) c.args.key.now) c.in_ok-made.ensures.counted c.count_noted.new.self (stepped (goal.at.returns-clause-counted c).After-count_noted)

-- Where the key is refused nothing has changed.
pub returns-in_err-made-clause-counted : goal.returns-in_err-made-clause-counted
returns-in_err-made-clause-counted c = counted-same c.args.self.now c.add.new.self c.in_err-made.ensures.refused c.requires.counted

pub returns-clause-stays : goal.returns-clause-stays
returns-clause-stays c =
    stays_stepped true c.args.self.now c.add.new.self c.count_noted.new.self (levels_passed (world_of c.args.self.now) c.args.key.now)
    (stepped (goal.at.returns-clause-stays c).After-count_noted) c.in_ok-made.ensures.stays
