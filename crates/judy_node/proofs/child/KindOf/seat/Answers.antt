use Rattle.std.proofs.Common.{◌*◌, ◌-◌, ◌^◌, arith, ap, sym, ◌∙◌, refl, subst}
use Rattle.judy_leaf.specs.KeyLists.{keys_of}
use Rattle.judy_bits.specs.ByteSets.{place}
use Rattle.judy_node.specs.Kinds.{IsLevel}
use Rattle.judy_model.specs.WordBytes.{number_of}
use Rattle.judy_node.specs.Steps.{IsStep}
use Rattle.judy_node.specs.declared.step.Step.TheVariants.{Missing, Below, Above}
use Rattle.judy_node.proofs.SeatFacts.{leaf-none, leaf-seat, bit-below, bit-none, bit-seat, branch-missing, branch-below, branch-above}
use Rattle.judy_node.proofs.child.KindOf.seat.Goals as goal

pub returns-in_err-at-in-Leaf-clause-none : goal.returns-in_err-at-in-Leaf-clause-none
returns-in_err-at-in-Leaf-clause-none g c =
    let words = g.V.Words.WORDS in
    rw c.from_residual.ensures (rw c.in-Leaf.is (leaf-none words c.in-Leaf.count c.args.key c.in-Leaf.block
    (sym c.in_err-at-in-Leaf.was ∙ c.find.ensures ∙ ap (λ l. place (keys_of l.pairs) c.args.key) c.new.ensures)))

pub returns-in_ok-at-in-Leaf-clause-seat : goal.returns-in_ok-at-in-Leaf-clause-seat
returns-in_ok-at-in-Leaf-clause-seat g c =
    let words = g.V.Words.WORDS in
    let level = subst (IsLevel words) c.in-Leaf.is c.requires.level in
    rw c.in-Leaf.is (leaf-seat words c.in-Leaf.count c.args.key c.in_ok-at-in-Leaf.at c.in-Leaf.block level
    (sym c.in_ok-at-in-Leaf.was ∙ c.find.ensures ∙ ap (λ l. place (keys_of l.pairs) c.args.key) c.new.ensures))

pub returns-then-key-front-clause-none : goal.returns-then-key-front-clause-none
returns-then-key-front-clause-none g c =
    let number = c.number-front.ensures.value in
    let below = c.if-key-front.true in
    rw c.in-Bit.is (bit-below g.V.Words.WORDS c.in-Bit.head c.args.key c.in-Bit.block (omega arith))

pub returns-in_err-at-in-Bit-clause-none : goal.returns-in_err-at-in-Bit-clause-none
returns-in_err-at-in-Bit-clause-none g c =
    let number = c.number-front.ensures.value in
    let above = c.if-key-front.false in
    rw c.from_residual-in_err-at-in-Bit.ensures (rw c.in-Bit.is (bit-none g.V.Words.WORDS c.in-Bit.head c.args.key (c.args.key - c.number-front.result * 256) c.in-Bit.block (omega arith)
    (sym c.in_err-at-in-Bit.was ∙ c.find-in-Bit.ensures ∙ ap (λ l. place (keys_of l.pairs) (c.args.key - c.number-front.result * 256)) c.new-in-Bit.ensures)))

pub overflow_add-result : goal.overflow_add-result
overflow_add-result g c =
    let low = c.args.key - c.number-front.result * 256 in
    let seat = bit-seat g.V.Words.WORDS low c.in_ok-at-in-Bit.at c.in-Bit.block
    (sym c.in_ok-at-in-Bit.was ∙ c.find-in-Bit.ensures ∙ ap (λ l. place (keys_of l.pairs) low) c.new-in-Bit.ensures) in
    let small = seat.1 in
    omega arith

pub returns-in_ok-at-in-Bit-clause-seat : goal.returns-in_ok-at-in-Bit-clause-seat
returns-in_ok-at-in-Bit-clause-seat g c =
    let number = c.number-front.ensures.value in
    let above = c.if-key-front.false in
    let low = c.args.key - c.number-front.result * 256 in
    let seat = bit-seat g.V.Words.WORDS low c.in_ok-at-in-Bit.at c.in-Bit.block
    (sym c.in_ok-at-in-Bit.was ∙ c.find-in-Bit.ensures ∙ ap (λ l. place (keys_of l.pairs) low) c.new-in-Bit.ensures) in
    rw c.in-Bit.is (c.in_ok-at-in-Bit.at, low, refl, omega arith, seat.0)

pub returns-in-Missing-clause-none : goal.returns-in-Missing-clause-none
returns-in-Missing-clause-none g c =
    let words = g.V.Words.WORDS in
    let node = c.in-Branch.branch.value in
    let level = (subst (IsLevel words) c.in-Branch.is c.requires.level).0 in
    let step = subst (λ b. IsStep (256 ^ b.width) (number_of b.skip * 256) b.bytes c.args.key (Missing c.in-Missing.field-0 c.in-Missing.field-1 c.in-Missing.field-2))
    c.deref.ensures c.in-Missing.ensures in
    rw c.in-Branch.is (branch-missing words node.width node.skip node.bytes node.children.items node.population c.args.key level c.in-Missing.field-0 c.in-Missing.field-1 c.in-Missing.field-2 step)

pub returns-in-Below-clause-none : goal.returns-in-Below-clause-none
returns-in-Below-clause-none g c =
    let words = g.V.Words.WORDS in
    let node = c.in-Branch.branch.value in
    let level = (subst (IsLevel words) c.in-Branch.is c.requires.level).0 in
    let step = subst (λ b. IsStep (256 ^ b.width) (number_of b.skip * 256) b.bytes c.args.key Below) c.deref.ensures c.in-Below.ensures in
    rw c.in-Branch.is (branch-below words node.width node.skip node.bytes node.children.items node.population c.args.key level step)

pub returns-in-Above-clause-none : goal.returns-in-Above-clause-none
returns-in-Above-clause-none g c =
    let words = g.V.Words.WORDS in
    let node = c.in-Branch.branch.value in
    let level = (subst (IsLevel words) c.in-Branch.is c.requires.level).0 in
    let step = subst (λ b. IsStep (256 ^ b.width) (number_of b.skip * 256) b.bytes c.args.key Above) c.deref.ensures c.in-Above.ensures in
    rw c.in-Branch.is (branch-above words node.width node.skip node.bytes node.children.items node.population c.args.key level step)
