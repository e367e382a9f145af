use Rattle.std.proofs.Common.{sym, ap, ◌∙◌}
use Rattle.judy_hs.specs.Groups.{Group, group_with_key}
use Rattle.judy_hs.proofs.GroupLemmas.{used-within, held-is, keyed-set, groups-added}
use Rattle.judy_hs.proofs.groups.Groups.add.Goals as goal

pub returns-in_ok-inside-in-Some-clause-added : goal.returns-in_ok-inside-in-Some-clause-added
returns-in_ok-inside-in-Some-clause-added c =
    let way = rw (← c.self.view_is) at c.requires.way in
    let leads = sym way ∙ c.in-Some.is in
    let can = rw (← c.self.view_is) at c.requires.takes in
    let within = used-within c.self.inside.groups.items c.in-Some.held c.args.part (rw leads at can) in
    let is = c.in_ok-inside-in-Some.ensures.added ∙ ap (λ (group : Group). group_with_key group c.args.part c.args.key.now c.in_ok-inside-in-Some.inside)
    (held-is c.self.inside.lengths c.self.inside.groups.items c.in-Some.held c.index_mut.result.now within c.index_mut.ensures.value) in
    rw (← c.self.view_is, leads) (keyed-set c.self.inside.lengths c.self.inside.groups.items c.in-Some.held c.add.new.self _ is)

pub invariant_of-self : goal.invariant_of-self
invariant_of-self c =
    let leads = sym (rw (← c.self.view_is) at c.requires.way) ∙ c.in-Some.is in
    let can = rw leads at rw (← c.self.view_is) at c.requires.takes in
    groups-added c.self.inside.lengths c.self.inside.groups.items c.self.inside.free c.self.invariant c.in-Some.held c.index_mut.result.now c.index_mut.ensures.value
    c.args.part c.args.key.now can c.add.result c.add.new.self c.add.ensures.added c.add.ensures.unchanged

pub invariant_of-self-in-Some : goal.invariant_of-self-in-Some
invariant_of-self-in-Some c =
    let leads = sym (rw (← c.self.view_is) at c.requires.way) ∙ c.in-Some.is in
    let can = rw leads at rw (← c.self.view_is) at c.requires.takes in
    groups-added c.self.inside.lengths c.self.inside.groups.items c.self.inside.free c.self.invariant c.in-Some.held c.index_mut.result.now c.index_mut.ensures.value
    c.args.part c.args.key.now can c.add.result c.add.new.self c.add.ensures.added c.add.ensures.unchanged
