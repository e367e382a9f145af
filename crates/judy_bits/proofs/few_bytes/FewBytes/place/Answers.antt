use Rattle.std.proofs.Common.{take, sym, refl, ◌∙◌, arith}
use Rattle.judy_bits.specs.ByteSets.{rank}
use Rattle.judy_bits.proofs.FewLemmas.{listed, place-there, place-none}
use Rattle.judy_bits.proofs.few_bytes.FewBytes.place.Goals as goal

pub returns-then-at-self : goal.returns-then-at-self
returns-then-at-self c =
    let bytes = c.self.inside.bytes in
    let count = c.self.inside.count in
    let at = c.first_place-at.result in
    let few = c.self.invariant.0.within in
    let inside = c.if-at-self.true in
    rw (← c.self.view_is) (place-there bytes count c.self.invariant.0 c.self.invariant.1 c.args.byte at inside
    (sym (listed bytes count at (omega arith)) ∙ c.first_place-at.ensures.holds (omega arith)))

pub returns-else-at-self : goal.returns-else-at-self
returns-else-at-self c =
    let bytes = c.self.inside.bytes in
    let count = c.self.inside.count in
    let few = c.self.invariant.0.within in
    let past = c.if-at-self.false in
    let own = rank (take count bytes) c.args.byte in
    rw (← c.self.view_is) (place-none bytes count c.self.invariant.0 c.self.invariant.1 c.args.byte own refl
    (λ inside same. c.first_place-at.ensures.first own (omega arith) (omega arith) (listed bytes count own (omega arith) ∙ same)))
