use Rattle.std.proofs.Common.{◌<◌, length, refl, sym, ◌∙◌, arith}
use Rattle.std.proofs.lemmas.Bool.{false≢true}
use Rattle.judy_hs.proofs.GroupLemmas.{inside-group, without-some, groups-set, groups-gone, taken-kept, taken-emptied}
use Rattle.judy_hs.proofs.groups.Groups.take.Goals as goal

pub invariant_of-self-then-is_empty : goal.invariant_of-self-then-is_empty
invariant_of-self-then-is_empty c =
    let less = c.in_ok-was.ensures.taken in
    let within : c.in_ok-place.place < length c.self.inside.groups.items = omega (arith, c.in-Some.ensures.variant.0 refl, c.self.inside.groups.ok.0) in
    groups-gone c.self.inside.groups.items c.self.inside.free c.self.invariant c.in_ok-place.place c.in-Some.held.now c.in-Some.ensures.value
    (inside-group _ c.args.part c.args.key.now less.inside less.stood) c.take.new.self within

pub invariant_of-self-else-is_empty : goal.invariant_of-self-else-is_empty
invariant_of-self-else-is_empty c =
    let less = c.in_ok-was.ensures.taken in
    let some = inside-group _ c.args.part c.args.key.now less.inside less.stood in
    groups-set c.self.inside.groups.items c.self.inside.free c.self.invariant c.in_ok-place.place c.in-Some.held.now c.in-Some.ensures.value some c.take.new.self
    (λ gone. without-some _ c.args.part less.inside c.args.key.now some (sym less.less ∙ gone))

pub returns-then-is_empty-clause-taken : goal.returns-then-is_empty-clause-taken
returns-then-is_empty-clause-taken c =
    let within : c.in_ok-place.place < length c.self.inside.groups.items = omega (arith, c.in-Some.ensures.variant.0 refl, c.self.inside.groups.ok.0) in
    let leads = sym c.get.ensures ∙ c.in_ok-place.was in
    rw (← c.self.view_is) (taken-emptied c.self.inside.lengths c.self.inside.groups.items c.in_ok-place.place c.in-Some.held.now within c.in-Some.ensures.value
    c.args.part c.args.key.now leads c.take.new.self c.in_ok-was.ensures.taken (c.is_empty.ensures.0 c.if-is_empty.true) c.self.inside.free c.del.new.self c.del.ensures.deleted)

pub returns-else-is_empty-clause-taken : goal.returns-else-is_empty-clause-taken
returns-else-is_empty-clause-taken c =
    let within : c.in_ok-place.place < length c.self.inside.groups.items = omega (arith, c.in-Some.ensures.variant.0 refl, c.self.inside.groups.ok.0) in
    let leads = sym c.get.ensures ∙ c.in_ok-place.was in
    rw (← c.self.view_is) (taken-kept c.self.inside.lengths c.self.inside.groups.items c.in_ok-place.place c.in-Some.held.now within c.in-Some.ensures.value
    c.args.part c.args.key.now leads c.take.new.self c.in_ok-was.ensures.taken (λ empty. false≢true (sym c.if-is_empty.false ∙ c.is_empty.ensures.1 empty)))
