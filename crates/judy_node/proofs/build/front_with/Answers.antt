use Rattle.std.proofs.Common.{◌^◌, sym, ◌∙◌, arith}
use Rattle.judy_node.proofs.Groups.{sharing-yes, sharing-no, sharing-end}
use Rattle.judy_node.proofs.build.front_with.Goals as goal

pub loop-at-init : goal.loop-at-init
loop-at-init c = omega arith

pub returns-then-byte_above-byte : goal.returns-then-byte_above-byte
returns-then-byte_above-byte c =
    let before = c.loop-at.invariant in
    let none = sharing-no (256 ^ c.args.below) 256 c.args.byte c.args.pairs.now c.loop-at.at (0, 0) c.loop-at-test.true (λ same. c.if-byte_above-byte.true (c.byte_above.ensures ∙ same)) in
    omega arith

pub loop-at-preserved : goal.loop-at-preserved
loop-at-preserved c =
    let before = c.loop-at.invariant in
    let one = sharing-yes (256 ^ c.args.below) 256 c.args.byte c.args.pairs.now c.loop-at.at (0, 0) c.loop-at-test.true (sym c.byte_above.ensures ∙ c.if-byte_above-byte.false) in
    omega arith

pub returns : goal.returns
returns c =
    let before = c.loop-at.invariant in
    let none = sharing-end (256 ^ c.args.below) 256 c.args.byte c.args.pairs.now c.loop-at.at c.loop-at-test.false in
    let within = c.loop-at.auto.at-end in
    let beyond = c.loop-at-test.false in
    omega arith
