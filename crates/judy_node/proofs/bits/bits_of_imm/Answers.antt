use Rattle.std.proofs.Common.{arith, ◌∙◌}
use Rattle.std.proofs.lemmas.List.{take_all}
use Rattle.judy_leaf.specs.KeyLists.{keys_of}
use Rattle.judy_leaf.proofs.LeafLists.{length-keys_of}
use Rattle.judy_node.proofs.BitFacts.{key_added}
use Rattle.judy_node.proofs.bits.bits_of_imm.Goals as goal

pub loop-at-preserved : goal.loop-at-preserved
loop-at-preserved g c =
    let count = c.len-at-end.ensures.count in
    let more = c.loop-at-test.true in
    key_added c.args.imm.now c.len-at-end.ensures.list c.loop-at.at c.key_at.result (omega arith) c.key_at.ensures c.loop-at.bits c.add.new.self c.loop-at.invariant c.add.ensures

pub returns : goal.returns
returns g c =
    let count = c.len-at-end.ensures.count in
    let past = c.loop-at-test.false in
    let long = length-keys_of c.args.imm.now.pairs in
    c.loop-at.invariant ∙ take_all c.loop-at.at (keys_of c.args.imm.now.pairs) (omega arith)
