use Rattle.std.proofs.Common.{ap, ◌∙◌, arith, count_by, nat_lt}
use Rattle.std.proofs.lemmas.List.{take_all}
use Rattle.judy_leaf.specs.Packing.{places}
use Rattle.judy_leaf.proofs.Counted.{counted_more}
use Rattle.judy_leaf.proofs.Placed.{length-places}
use Rattle.judy_leaf.proofs.packed.below_by_place.Goals as goal

pub loop-at-preserved : goal.loop-at-preserved
loop-at-preserved g c =
    let long = length-places g.row.W c.requires c.args.word in
    counted_more (places g.row.W c.args.word) c.loop-at.at c.args.key c.loop-at.below c.key_in.result (omega arith) c.key_in.ensures.key c.loop-at.invariant.0 c.loop-at.invariant.1

pub returns-clause-count : goal.returns-clause-count
returns-clause-count g c =
    let long = length-places g.row.W c.requires c.args.word in
    c.loop-at.invariant.0 ∙ ap (count_by (λ x. nat_lt x c.args.key)) (take_all c.loop-at.at (places g.row.W c.args.word) (omega arith))
