use Rattle.std.proofs.Common.{◌^◌, ◌≤◌, true, refl, sym, ap, ◌∙◌, arith}
use Rattle.std.proofs.Math.Nat.{pow-le-pow_right}
use Rattle.judy_leaf.specs.KeyLists.{shift}
use Rattle.judy_sets.specs.Meets.{found}
use Rattle.judy_sets.proofs.MeetFacts.{found-common, found-lacking, found-shift}
use Rattle.judy_sets.proofs.meets.count_leaves.Goals as goal

pub common_in-common-requires-clause-fits : goal.common_in-common-requires-clause-fits
common_in-common-requires-clause-fits g c =
    let most : 256 ^ c.args.other.now.width ≤ 256 ^ 8 = pow-le-pow_right {n = 256} (omega arith) c.law.ensures.most in
    let fits = c.requires.fits in
    omega arith

pub returns-then-wanted : goal.returns-then-wanted
returns-then-wanted g c =
    let one = c.args.one.now.pairs in
    let other = c.args.other.now.pairs in
    let by = c.args.by in
    c.common_in-common.ensures.count
    ∙ sym (found-common 0 (shift by one) other refl)
    ∙ found-shift true 0 by by one other (omega arith)
    ∙ ap (λ w. found w by one other) (sym c.if-wanted.true)

pub returns-else-wanted : goal.returns-else-wanted
returns-else-wanted g c =
    let one = c.args.one.now.pairs in
    let other = c.args.other.now.pairs in
    let by = c.args.by in
    let rest = found-lacking by one other in
    let common = c.common_in-common.ensures.count ∙ sym (found-common 0 (shift by one) other refl) ∙ found-shift true 0 by by one other (omega arith) in
    let long = c.len.ensures.count in
    let lacking = ap (λ w. found w by one other) c.if-wanted.false in
    omega arith
