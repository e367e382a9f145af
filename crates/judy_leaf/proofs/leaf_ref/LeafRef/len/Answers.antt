use Rattle.std.proofs.Common.{sym, ◌∙◌}
use Rattle.judy_leaf.proofs.LeafLists.{read_length, read_list}
use Rattle.judy_leaf.proofs.leaf_ref.LeafRef.len.Goals as goal

pub returns-clause-count : goal.returns-clause-count
returns-clause-count g c = c.from.ensures ∙ sym (read_length g.V.Words.WORDS c.self.inside.count c.self.inside.block.now c.self.invariant.0 c.args.self.now c.self.view_is)

pub returns-clause-list : goal.returns-clause-list
returns-clause-list g c = read_list g.V.Words.WORDS c.self.inside.count c.self.inside.block.now c.self.invariant.0 c.args.self.now c.self.view_is
