use Rattle.std.proofs.Common.{sym, ap, ◌∙◌, arith}
use Rattle.std.proofs.lemmas.List.{get_or_read_under}
use Rattle.slab.specs.Slab.{Slab, get}
use Rattle.judy_sl.specs.LevelLists.{LevelParts, keys_in}
use Rattle.judy_sl.proofs.lemmas.seats.Numbered.{held-here, keys-here}
use Rattle.judy_sl.proofs.level_list.LevelList.keys.Goals as goal

pub index-requires : goal.index-requires
index-requires c =
    let held = held-here c.self.inside.words c.self.inside.numbers.items c.args.index c.args.self.now c.self.view_is c.requires in
    let within = c.self.invariant c.args.index held in
    omega (arith, within, c.self.inside.numbers.ok)

pub returns : goal.returns
returns c =
    let numbers = c.self.inside.numbers.items in
    let held = held-here c.self.inside.words numbers c.args.index c.args.self.now c.self.view_is c.requires in
    let within = c.self.invariant c.args.index held in
    get_or_read_under numbers _ _ _ 0 c.index.ensures (omega (arith, within, c.self.inside.numbers.ok)) c.self.inside.numbers.ok.0
    ∙ sym (keys-here c.self.inside.words numbers c.args.index held)
    ∙ ap (λ (levels : Slab LevelParts). keys_in (get levels c.args.index)) c.self.view_is
