use Rattle.std.proofs.Common.{◌≡◌, ◌<◌, Some, length, refl, sym, ap, ◌∙◌, arith}
use Rattle.std.specs.FinMap.{get}
use Rattle.judy_hs.specs.Groups.{Group, group_with_key}
use Rattle.judy_hs.proofs.GroupLemmas.{held-is, keyed-set, groups-tried}
use Rattle.judy_hs.proofs.groups.Groups.try_add.Goals.{in-Added, in-Refused, in-Open}
use Rattle.judy_hs.proofs.groups.Groups.try_add.Goals as goal

pub invariant_of-self-2 : goal.invariant_of-self-2
invariant_of-self-2 c =
    groups-tried c.self.inside.groups.items c.self.inside.free c.self.invariant c.in-Some.place c.in-Some-get_mut.held.now c.in-Some-get_mut.ensures.value
    c.try_add.result c.args.part c.args.key.now c.try_add.new.self c.try_add.ensures.some c.try_add.ensures.added c.try_add.ensures.unchanged

pub returns-clause-added : goal.returns-clause-added
returns-clause-added c =
    let leads : get c.self.inside.lengths.map (length c.args.key.now) ≡ Some c.in-Some.place = sym c.get.ensures ∙ c.in-Some.is in
    let within : c.in-Some.place < length c.self.inside.groups.items = omega (arith, c.in-Some-get_mut.ensures.variant.0 refl, c.self.inside.groups.ok.0) in
    let held = held-is c.self.inside.lengths c.self.inside.groups.items c.in-Some.place c.in-Some-get_mut.held.now within c.in-Some-get_mut.ensures.value in
    elim c.match-try_add.branch [
      | in-Added w ↦
          let is = w.in-Added.ensures.added ∙ ap (λ (group : Group). group_with_key group c.args.part c.args.key.now w.in-Added.inside) held in
          rw (w.result-is, ← c.self.view_is, leads) (keyed-set c.self.inside.lengths c.self.inside.groups.items c.in-Some.place c.try_add.new.self _ is)
      | in-Refused w ↦ rw w.result-is tt
      | in-Open w ↦ rw w.result-is tt
    ]
