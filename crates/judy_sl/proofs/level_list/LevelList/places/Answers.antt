use Rattle.std.proofs.Common.{arith}
use Rattle.judy_sl.proofs.lemmas.seats.Numbered.{held-here, held-within}
use Rattle.judy_sl.proofs.level_list.LevelList.places.Goals as goal

pub returns : goal.returns
returns c = λ index has.
    let words = c.self.inside.words in
    let within = held-within words index (held-here words c.self.inside.numbers.items index c.args.self.now c.self.view_is has) in
    omega (arith, within, c.capacity.ensures.slots)
