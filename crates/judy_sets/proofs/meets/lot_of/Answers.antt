use Rattle.std.proofs.Common.{◌≡◌, ◌+◌, ◌-◌, ◌*◌, ◌^◌, ◌≤◌, length, ap, sym, ◌∙◌, subst, arith}
use Rattle.std.proofs.Math.Nat.{pow-le-pow_right}
use Rattle.judy_model.specs.WordBytes.{number_of}
use Rattle.judy_model.proofs.lemmas.orders.ByteLemmas.{unit_pos}
use Rattle.judy_node.specs.Steps.{IsStep}
use Rattle.judy_query.proofs.Downs.{beside_is}
use Rattle.judy_sets.proofs.LotFacts.{free_between}
use Rattle.judy_sets.proofs.meets.lot_of.Goals as goal

pub moved_up-unit-requires-clause-within : goal.moved_up-unit-requires-clause-within
moved_up-unit-requires-clause-within g c =
    let most : 256 ^ c.args.width ≤ 256 ^ 7 = pow-le-pow_right {n = 256} (omega arith) c.requires.narrow in
    let same = ap (λ w. 256 ^ w) c.from.ensures in
    omega arith

pub overflow_add-rest : goal.overflow_add-rest
overflow_add-rest g c =
    let within = c.requires.level.parts.within in
    let narrow : c.args.branch.now.width ≤ 7 = omega arith in
    let most : 256 ^ c.args.width ≤ 256 ^ 7 = pow-le-pow_right {n = 256} (omega arith) c.requires.narrow in
    let below : 256 ^ c.args.branch.now.width ≤ 256 ^ 7 = pow-le-pow_right {n = 256} (omega arith) narrow in
    let same = ap (λ w. 256 ^ w) c.from.ensures in
    let unit = c.moved_up-unit.ensures in
    let rest = c.in-Child.ensures.0.rest_is in
    omega arith

pub moved_up-requires-clause-within : goal.moved_up-requires-clause-within
moved_up-requires-clause-within g c =
    let within = c.requires.level.parts.within in
    let narrow : c.args.branch.now.width ≤ 7 = omega arith in
    let below : 256 ^ c.args.branch.now.width ≤ 256 ^ 7 = pow-le-pow_right {n = 256} (omega arith) narrow in
    let same = ap (λ w. 256 ^ w) c.from-in-Child.ensures in
    omega arith

pub overflow_sub-unit : goal.overflow_sub-unit
overflow_sub-unit g c =
    let some = unit_pos c.from.result in
    let unit = c.moved_up-unit.ensures in
    omega arith

pub overflow_add-by : goal.overflow_add-by
overflow_add-by g c =
    let b = c.args.branch.now in
    let top : 256 ^ (length b.skip + 1 + b.width) ≤ 256 ^ 8 = pow-le-pow_right {n = 256} (omega arith) c.requires.level.parts.within in
    let some = unit_pos c.args.width in
    let same = ap (λ w. 256 ^ w) c.from.ensures in
    let unit = c.moved_up-unit.ensures in
    let fits = c.requires.fits in
    omega arith

pub returns-then-passed : goal.returns-then-passed
returns-then-passed g c =
    let b = c.args.branch.now in
    let same = ap (λ w. 256 ^ w) c.from.ensures in
    let unit : c.moved_up-unit.result ≡ 256 ^ c.args.width = (let is = c.moved_up-unit.ensures in omega arith) in
    free_between g.V.Words.WORDS b.width b.skip b.bytes b.children.items b.population c.requires.level c.args.by c.args.width c.step-step.result c.step-end.result
    (beside_is c.step-step.result c.in_default.not-Child) (beside_is c.step-end.result c.in_default-end.not-Child) c.step-step.ensures
    (subst (λ n. IsStep (256 ^ b.width) (number_of b.skip * 256) b.bytes (c.args.by + (n - 1)) c.step-end.result) unit c.step-end.ensures)
    (sym c.passed.ensures ∙ c.if-passed.true ∙ c.passed-2.ensures) c.requires.fits
