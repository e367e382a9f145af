use Rattle.std.proofs.Common.{ap, ◌∙◌, arith}
use Rattle.std.proofs.lemmas.List.{length-set}
use Rattle.slab.specs.Slab.{Slab}
use Rattle.judy_sl.specs.LevelLists.{LevelParts, with_keys}
use Rattle.judy_sl.proofs.lemmas.seats.Numbered.{held-here, keys-written, kept-numbers}
use Rattle.judy_sl.proofs.level_list.LevelList.set_keys.Goals as goal

pub index_mut-requires : goal.index_mut-requires
index_mut-requires c =
    let held = held-here c.self.inside.words c.self.inside.numbers.items c.args.index c.args.self.now c.self.view_is c.requires in
    let within = c.self.invariant c.args.index held in
    omega (arith, within, c.self.inside.numbers.ok)

pub invariant_of-self : goal.invariant_of-self
invariant_of-self c =
    let long = length-set c.self.inside.numbers.items c.args.index c.args.keys in
    kept-numbers c.self.inside.words c.self.inside.numbers.items _ (omega (arith, long)) c.self.invariant

pub returns : goal.returns
returns c =
    let held = held-here c.self.inside.words c.self.inside.numbers.items c.args.index c.args.self.now c.self.view_is c.requires in
    keys-written c.self.inside.words c.self.inside.numbers.items c.args.index held c.args.keys (c.self.invariant c.args.index held)
    ∙ ap (λ (levels : Slab LevelParts). with_keys levels c.args.index c.args.keys) c.self.view_is
