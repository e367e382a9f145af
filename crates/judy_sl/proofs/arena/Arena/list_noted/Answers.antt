use Rattle.std.proofs.Common.{List, ℕ, sym, subst, arith}
use Rattle.judy_sl.specs.Arenas.{world_of}
use Rattle.judy_sl.specs.Listed.{AreListedBut, AreBegun}
use Rattle.judy_sl.proofs.lemmas.counts.WayLevels.{noted-count, first-short}
use Rattle.judy_sl.proofs.arena.Arena.list_noted.Goals as goal

-- ---- by their places

pub list_places-requires-clause-but : goal.list_places-requires-clause-but
list_places-requires-clause-but c =
    let noted = rw c.in-Places.is at c.requires.noted in
    subst (λ (places : List ℕ). AreListedBut c.args.comes c.args.self.now c.args.lists.now places c.args.key.now) (sym noted.1) noted.3

pub list_places-requires-clause-begun : goal.list_places-requires-clause-begun
list_places-requires-clause-begun c comes =
    let noted = rw c.in-Places.is at c.requires.noted in
    subst (λ (places : List ℕ). AreBegun (world_of c.args.self.now) places c.args.key.now c.args.beside) (sym noted.1) (noted.4 comes)

-- ---- by their number

pub list_way-requires-clause-deep : goal.list_way-requires-clause-deep
list_way-requires-clause-deep c =
    let noted = rw c.in-Count.is at c.requires.noted in
    let short = first-short (world_of c.args.self.now) c.args.key.now noted.0 noted.2 in
    let same = noted.1 in
    omega (arith, short, same)

pub list_way-requires-clause-but : goal.list_way-requires-clause-but
list_way-requires-clause-but c =
    let noted = rw c.in-Count.is at c.requires.noted in
    subst (λ (places : List ℕ). AreListedBut c.args.comes c.args.self.now c.args.lists.now places c.args.key.now)
    (sym (noted-count c.in-Count.count noted.0 noted.1 (world_of c.args.self.now) c.args.key.now noted.2)) noted.3

pub list_way-requires-clause-begun : goal.list_way-requires-clause-begun
list_way-requires-clause-begun c comes =
    let noted = rw c.in-Count.is at c.requires.noted in
    subst (λ (places : List ℕ). AreBegun (world_of c.args.self.now) places c.args.key.now c.args.beside)
    (sym (noted-count c.in-Count.count noted.0 noted.1 (world_of c.args.self.now) c.args.key.now noted.2)) (noted.4 comes)
