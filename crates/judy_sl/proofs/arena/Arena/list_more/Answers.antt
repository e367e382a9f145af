use Rattle.std.proofs.Common.{ℕ, sym, ap, subst, ◌∙◌, arith}
use Rattle.std.specs.FinMap.{FinMap, len}
use Rattle.judy_model.specs.Keys.{byte_order}
use Rattle.judy_sums.specs.Pairs.{raised}
use Rattle.judy_sl.specs.Arenas.{world_of}
use Rattle.judy_sl.specs.Listed.{IsListed, IsBegun}
use Rattle.judy_sl.proofs.lemmas.seats.Maps.{len-added}
use Rattle.judy_sl.proofs.lemmas.counts.Beginnings.{firsts_len, firsts_sum}
use Rattle.judy_sl.proofs.lemmas.counts.KeysTold.{level_counted}
use Rattle.judy_sl.proofs.lemmas.counts.ListSteps.{was_raised, more_listed, none_listed}
use Rattle.judy_sl.proofs.arena.Arena.list_more.Goals as goal

pub returns-then-keys-le-FEW-clause-here : goal.returns-then-keys-le-FEW-clause-here
returns-then-keys-le-FEW-clause-here c list some =
    let off = c.requires.off.list list some in
    let told = level_counted c.args.self.now c.requires.counted c.args.at c.requires.off.there in
    absurd (let never : ⊥ = omega (arith, off.many, told, c.keys_told-keys.ensures, c.if-keys-le-FEW.true) in never)

pub raise-requires-clause-few : goal.raise-requires-clause-few
raise-requires-clause-few c list some =
    let off = c.requires.off.list list some in
    let told = level_counted c.args.self.now c.requires.counted c.args.at c.requires.off.there in
    let more = ap (λ (m : FinMap byte_order ℕ). len m) off.becomes ∙ len-added off.all c.args.rest.now 0 off.absent in
    let words = firsts_len off.all list off.firsts in
    omega (arith, told, more, words, c.keys_told-keys.ensures, c.keys_told-keys.type_inv)

pub raise-requires-clause-fits : goal.raise-requires-clause-fits
raise-requires-clause-fits c list some =
    let off = c.requires.off.list list some in
    let told = level_counted c.args.self.now c.requires.counted c.args.at c.requires.off.there in
    let more = ap (λ (m : FinMap byte_order ℕ). len m) off.becomes ∙ len-added off.all c.args.rest.now 0 off.absent in
    let sum = firsts_sum off.all list off.firsts in
    omega (arith, told, more, sum, c.keys_told-keys.ensures, c.keys_told-keys.type_inv)

pub returns-then-beside-clause-here : goal.returns-then-beside-clause-here
returns-then-beside-clause-here c list some =
    let was = was_raised c.raise.result _ _ c.first_piece.result c.raise.ensures.raised c.raise.ensures.forgotten list some in
    let off = c.requires.off.list was.0 was.1 in
    let many = subst (IsBegun (world_of c.args.self.now) c.args.at c.args.rest.now) c.if-beside.true c.requires.begun in
    subst (IsListed (world_of c.args.self.now) c.args.at) (sym (was.2 ∙ ap (raised was.0) c.first_piece.ensures)) (more_listed c.args.self.now off many)

pub returns-clause-here : goal.returns-clause-here
returns-clause-here c list some =
    none_listed c.args.self.now (c.requires.off.list list some) (subst (IsBegun (world_of c.args.self.now) c.args.at c.args.rest.now) c.if-beside.false c.requires.begun)
