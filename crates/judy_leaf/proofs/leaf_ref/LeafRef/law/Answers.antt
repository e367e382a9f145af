use Rattle.judy_leaf.proofs.LeafLists.{read_list}
use Rattle.judy_leaf.proofs.leaf_ref.LeafRef.law.Goals as goal

pub returns : goal.returns
returns g c = read_list g.V.Words.WORDS c.self.inside.count c.self.inside.block.now c.self.invariant.0 c.args.self.now c.self.view_is
