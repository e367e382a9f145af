use Rattle.std.proofs.Common.{true, refl, sym, ap, ◌∙◌, arith}
use Rattle.judy_sets.specs.Meets.{found}
use Rattle.judy_sets.proofs.MeetFacts.{found-common, found-lacking, found-most}
use Rattle.judy_sets.proofs.meets.count_bits.Goals as goal

pub returns-then-wanted : goal.returns-then-wanted
returns-then-wanted g c =
    let one = c.args.one.now.pairs in
    let other = c.args.other.now.pairs in
    c.common_count-common.ensures ∙ sym (found-common 0 one other refl) ∙ ap (λ w. found w 0 one other) (sym c.if-wanted.true)

pub overflow_sub-result : goal.overflow_sub-result
overflow_sub-result g c =
    let one = c.args.one.now.pairs in
    let other = c.args.other.now.pairs in
    let most = found-most true 0 one other in
    let common = c.common_count-common.ensures ∙ sym (found-common 0 one other refl) in
    let long = c.len.ensures.count in
    omega arith

pub returns-else-wanted : goal.returns-else-wanted
returns-else-wanted g c =
    let one = c.args.one.now.pairs in
    let other = c.args.other.now.pairs in
    let rest = found-lacking 0 one other in
    let common = c.common_count-common.ensures ∙ sym (found-common 0 one other refl) in
    let long = c.len.ensures.count in
    let lacking = ap (λ w. found w 0 one other) c.if-wanted.false in
    omega arith
