use Rattle.std.proofs.Common.{arith}
use Rattle.judy_leaf.specs.Packing.{keys_in}
use Rattle.judy_leaf.proofs.LeafLists.{rank_within}
use Rattle.judy_leaf.proofs.KeysIn.{length-keys, there_in}
use Rattle.judy_leaf.proofs.packed.next_in.Goals as goal

pub returns-then-at-count : goal.returns-then-at-count
returns-then-at-count g c = record {
  place = c.rank_in-at.ensures;
  key = there_in g.row.W c.args.count c.args.words.now c.requires.packed c.rank_in-at.result c.key_of.result c.if-at-count.true c.key_of.ensures;
}

pub returns-else-at-count : goal.returns-else-at-count
returns-else-at-count g c =
    let most = rank_within (keys_in g.row.W c.args.count c.args.words.now) c.args.number in
    let long = length-keys g.row.W c.args.count c.args.words.now c.requires.packed in
    let past = c.if-at-count.false in
    let is = c.rank_in-at.ensures in
    omega arith
