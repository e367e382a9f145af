use Rattle.std.proofs.Common.{sym, subst, arith}
use Rattle.judy_sl.specs.Arenas.{world_of}
use Rattle.judy_sl.specs.Counted.{AreOnce, CanStepAt, AreStepped}
use Rattle.judy_sl.proofs.lemmas.counts.WayLevels.{noted-count, first-short, first-once}
use Rattle.judy_sl.proofs.arena.Arena.count_noted.Goals as goal

-- ---- by their places

pub count_places-requires-clause-once : goal.count_places-requires-clause-once
count_places-requires-clause-once c =
    let noted = rw c.in-Places.is at c.requires.noted in
    subst AreOnce (sym noted.1) (first-once c.args.self.now c.requires.is_arena c.args.key.now c.requires.is_key noted.0 noted.2)

pub count_places-requires-clause-can : goal.count_places-requires-clause-can
count_places-requires-clause-can c =
    let noted = rw c.in-Places.is at c.requires.noted in
    subst (CanStepAt c.args.comes c.args.self.now) (sym noted.1) noted.3

pub returns-in-Places : goal.returns-in-Places
returns-in-Places c =
    rw c.in-Places.is (λ places are first. subst (AreStepped c.args.comes c.args.self.now c.count_places.new.self) are c.count_places.ensures)

-- ---- by their number

pub count_way-requires-clause-deep : goal.count_way-requires-clause-deep
count_way-requires-clause-deep c =
    let noted = rw c.in-Count.is at c.requires.noted in
    let short = first-short (world_of c.args.self.now) c.args.key.now noted.0 noted.2 in
    let same = noted.1 in
    omega (arith, short, same)

pub count_way-requires-clause-can : goal.count_way-requires-clause-can
count_way-requires-clause-can c =
    let noted = rw c.in-Count.is at c.requires.noted in
    subst (CanStepAt c.args.comes c.args.self.now) (sym (noted-count c.in-Count.count noted.0 noted.1 (world_of c.args.self.now) c.args.key.now noted.2)) noted.3

pub returns-in-Count : goal.returns-in-Count
returns-in-Count c =
    rw c.in-Count.is (λ places are first.
    subst (AreStepped c.args.comes c.args.self.now c.count_way.new.self) (noted-count c.in-Count.count places are (world_of c.args.self.now) c.args.key.now first) c.count_way.ensures)
