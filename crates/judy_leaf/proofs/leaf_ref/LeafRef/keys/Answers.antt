use Rattle.std.proofs.Common.{sym, ap, ◌∙◌}
use Rattle.judy_leaf.proofs.LeafLists.{read_keys, read_length}
use Rattle.judy_leaf.proofs.leaf_ref.LeafRef.keys.Goals as goal

pub returns-clause-same : goal.returns-clause-same
returns-clause-same g c =
    read_keys g.V.Words.WORDS c.self.inside.count c.self.inside.block.now c.self.invariant.0 c.args.self.now c.self.view_is c.self.inside.width c.self.invariant.1
    c.from.result c.from-count.result c.WORDS.result c.from.ensures c.from-count.ensures c.WORDS.ensures

pub returns-clause-width : goal.returns-clause-width
returns-clause-width g c = c.from.ensures ∙ sym c.self.invariant.1 ∙ ap (λ l. l.width) c.self.view_is

pub returns-clause-count : goal.returns-clause-count
returns-clause-count g c = c.from-count.ensures ∙ sym (read_length g.V.Words.WORDS c.self.inside.count c.self.inside.block.now c.self.invariant.0 c.args.self.now c.self.view_is)
