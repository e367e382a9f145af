use Rattle.std.proofs.Common.{arith}
use Rattle.judy_bits.proofs.FewLemmas.{upto-le, prev-there}
use Rattle.judy_bits.proofs.few_bytes.FewBytes.prev_from.Goals as goal

pub bounds-self-inside-upto : goal.bounds-self-inside-upto
bounds-self-inside-upto c =
    let most = upto-le c.self.inside.bytes c.self.inside.count c.self.invariant.0 c.self.invariant.1 c.args.byte in
    let counted = rw (← c.self.view_is) at c.count_up_to-upto.ensures in
    let within = c.self.invariant.0.within in
    omega arith

pub returns-else-upto-eq0 : goal.returns-else-upto-eq0
returns-else-upto-eq0 c =
    rw (← c.self.view_is) (prev-there c.self.inside.bytes c.self.inside.count c.self.invariant.0 c.self.invariant.1 c.args.byte c.count_up_to-upto.result
    (rw (← c.self.view_is) at c.count_up_to-upto.ensures) c.if-upto-eq0.false)
