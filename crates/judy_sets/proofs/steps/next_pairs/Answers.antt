use Rattle.std.proofs.Common.{length, sym, ◌∙◌, arith}
use Rattle.std.proofs.lemmas.Bool.{eqb-false}
use Rattle.judy_sets.proofs.PageFacts.{part_is}
use Rattle.judy_sets.proofs.steps.next_pairs.Goals as goal

pub returns : goal.returns
returns g c =
    let passed = c.merge-passed.result in
    let told = c.merge-passed.ensures in
    let ours = eqb-false (length c.ahead-ours.result.now) 0 (sym c.is_empty.ensures ∙ c.if-is_empty.false) in
    let theirs = eqb-false (length c.ahead-theirs.result.now) 0 (sym c.is_empty-else-is_empty.ensures ∙ c.if-is_empty-2.false) in
    part_is c.args.keep c.args.left.now c.args.right.now c.pass.new.self c.pass-2.new.self c.ahead-ours.result.now c.ahead-theirs.result.now passed.left passed.right
    c.merge-passed.new.out passed.count c.ahead-ours.ensures.read c.ahead-theirs.ensures.read (omega (arith, ours))
    (omega (arith, theirs)) told.left told.right told.end c.pass.ensures c.pass-2.ensures c.requires.left_up c.requires.right_up (omega arith) told.merged
