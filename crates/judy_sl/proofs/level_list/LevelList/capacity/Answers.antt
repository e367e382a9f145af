use Rattle.std.proofs.Common.{arith}
use Rattle.judy_sl.proofs.lemmas.seats.Numbered.{count-both}
use Rattle.judy_sl.proofs.level_list.LevelList.capacity.Goals as goal

pub returns-then-places-len-clause-holds_all : goal.returns-then-places-len-clause-holds_all
returns-then-places-len-clause-holds_all c =
    let count = count-both c.self.inside.words c.self.inside.numbers.items c.args.self.now c.self.view_is in
    omega (arith, count, c.capacity-places.ensures.holds_all)

pub returns-else-places-len-clause-holds_all : goal.returns-else-places-len-clause-holds_all
returns-else-places-len-clause-holds_all c =
    let count = count-both c.self.inside.words c.self.inside.numbers.items c.args.self.now c.self.view_is in
    omega (arith, count, c.len-else-places-len.ensures)
