use Rattle.std.proofs.Common.{◌≡◌, ◌-◌, take, sym, ap, ◌∙◌, arith}
use Rattle.std.proofs.lemmas.Option.{slice_get_within}
use Rattle.judy_bits.specs.ByteSets.{IsByteSet, without_byte}
use Rattle.judy_bits.specs.Paddings.{IsPadded, length-meant}
use Rattle.judy_bits.proofs.SetLemmas.{without_other}
use Rattle.judy_bits.proofs.FewLemmas.{taken, there-place, absent-place}
use Rattle.judy_bits.proofs.few_bytes.FewBytes.take.Goals as goal

pub close_place-requires : goal.close_place-requires
close_place-requires c =
    let there = there-place (take c.self.inside.count c.self.inside.bytes) c.args.byte c.in-Some.at c.self.invariant.1 (rw (← c.self.view_is) at c.in-Some.ensures) in
    let within = slice_get_within (take c.self.inside.count c.self.inside.bytes) c.in-Some.at c.args.byte there in
    let long = length-meant 255 c.self.inside.bytes c.self.inside.count c.self.invariant.0 in
    let most = c.self.invariant.0.within in
    omega arith

-- The array and the count afterwards.
after : (c : goal.After-self-1) → (take (c.self.inside.count - 1) c.close_place.new.bytes ≡ without_byte (take c.self.inside.count c.self.inside.bytes) c.args.byte)
    × (IsPadded 255 c.close_place.new.bytes (c.self.inside.count - 1) × IsByteSet (take (c.self.inside.count - 1) c.close_place.new.bytes))
after c =
    taken c.self.inside.bytes c.self.inside.count c.self.invariant.0 c.self.invariant.1 c.args.byte c.in-Some.at
    (there-place (take c.self.inside.count c.self.inside.bytes) c.args.byte c.in-Some.at c.self.invariant.1 (rw (← c.self.view_is) at c.in-Some.ensures)) c.close_place.new.bytes c.close_place.ensures

pub invariant_of-self : goal.invariant_of-self
invariant_of-self c = (after c).1

pub returns-in-Some : goal.returns-in-Some
returns-in-Some c = (after c).0 ∙ ap (λ members. without_byte members c.args.byte) c.self.view_is

pub returns-in_default : goal.returns-in_default
returns-in_default c = sym (without_other c.args.self.now c.args.byte (absent-place c.args.self.now c.args.byte c.in_default.ensures))
