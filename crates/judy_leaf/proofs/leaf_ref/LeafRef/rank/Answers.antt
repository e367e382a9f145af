use Rattle.std.proofs.Common.{ap, ◌∙◌, arith}
use Rattle.judy_bits.specs.ByteSets as set
use Rattle.judy_leaf.specs.KeyLists.{keys_of}
use Rattle.judy_leaf.proofs.LeafLists.{rank_within, length-keys_of}
use Rattle.judy_leaf.proofs.leaf_ref.LeafRef.rank.Goals as goal

pub returns-clause-value : goal.returns-clause-value
returns-clause-value g c = c.rank.ensures ∙ ap (λ keys. set.rank keys c.args.key) c.keys-width.ensures.same

pub returns-clause-within : goal.returns-clause-within
returns-clause-within g c =
    let within = rank_within (keys_of c.args.self.now.pairs) c.args.key in
    let long = length-keys_of c.args.self.now.pairs in
    let is = c.rank.ensures ∙ ap (λ keys. set.rank keys c.args.key) c.keys-width.ensures.same in
    omega arith
