use Rattle.std.proofs.Common.{◌≡◌, ◌+◌, ◌<◌, length, take, not, false, is_some, sym, ap, ◌∙◌, arith}
use Rattle.judy_bits.specs.ByteSets.{IsByteSet, has, rank, with_byte}
use Rattle.judy_bits.specs.Paddings.{IsPadded, length-meant}
use Rattle.judy_bits.proofs.SetLemmas.{with_member}
use Rattle.judy_bits.proofs.FewLemmas.{rank-le, added, has-is_some}
use Rattle.judy_bits.proofs.few_bytes.FewBytes.add.Goals as goal

pub open_place-requires : goal.open_place-requires
open_place-requires c =
    let most = rank-le c.args.self.now c.args.byte in
    let h = c.rank-at.ensures in
    omega arith

-- The array and the count afterwards.
after : (c : goal.After-self-1) → (take (c.self.inside.count + 1) c.open_place.new.bytes ≡ with_byte (take c.self.inside.count c.self.inside.bytes) c.args.byte)
    × (IsPadded 255 c.open_place.new.bytes (c.self.inside.count + 1) × IsByteSet (take (c.self.inside.count + 1) c.open_place.new.bytes))
after c =
    let long = length-meant 255 c.self.inside.bytes c.self.inside.count c.self.invariant.0 in
    let room : length (take c.self.inside.count c.self.inside.bytes) < 7 = rw c.self.view_is c.requires in
    let absent : has (take c.self.inside.count c.self.inside.bytes) c.args.byte ≡ false =
    ap (λ members. has members c.args.byte) c.self.view_is ∙ sym (has-is_some c.args.self.now c.args.byte) ∙ ap is_some (sym c.place.ensures) ∙ c.is_none.ensures ∙ ap not c.if-is_none.true in
    added c.self.inside.bytes c.self.inside.count c.self.invariant.0 c.self.invariant.1 c.args.byte c.rank-at.result c.ranges.byte.fits (omega arith) absent
    (c.rank-at.ensures ∙ ap (λ members. rank members c.args.byte) (sym c.self.view_is)) c.open_place.new.bytes c.open_place.ensures

pub invariant_of-self : goal.invariant_of-self
invariant_of-self c = (after c).1

pub returns-then-is_none : goal.returns-then-is_none
returns-then-is_none c = (after c).0 ∙ ap (λ members. with_byte members c.args.byte) c.self.view_is

pub returns-else-is_none : goal.returns-else-is_none
returns-else-is_none c =
    rw (← c.self.view_is) (sym (with_member (take c.self.inside.count c.self.inside.bytes) c.args.byte c.self.invariant.1.ascending
    (ap (λ members. has members c.args.byte) c.self.view_is ∙ sym (has-is_some c.args.self.now c.args.byte) ∙ ap is_some (sym c.place.ensures) ∙ c.is_none.ensures ∙ ap not c.if-is_none.false)))
