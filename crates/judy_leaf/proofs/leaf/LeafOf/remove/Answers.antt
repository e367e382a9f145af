use Rattle.std.proofs.Common.{◌<◌, sym, subst, ◌∙◌}
use Rattle.judy_leaf.proofs.LeafLists.{read_length}
use Rattle.judy_leaf.proofs.LeafChanges.{leaf_less}
use Rattle.judy_leaf.proofs.leaf.LeafOf.remove.Goals as goal

pub take-requires-clause-inside : goal.take-requires-clause-inside
take-requires-clause-inside g c =
    subst (λ n. c.args.at < n) (read_length g.V.Words.WORDS c.self.inside.count c.self.inside.block c.self.invariant c.args.self.now c.self.view_is ∙ sym c.from-count.ensures) c.requires

pub invariant_of-self : goal.invariant_of-self
invariant_of-self g c = (leaf_less g.V.Words.WORDS c.self.inside.count c.args.at c.self.inside.block c.take.new.block c.args.self.now c.self.invariant c.self.view_is
    c.requires c.from-count.ensures c.take.ensures).0

pub returns : goal.returns
returns g c = (leaf_less g.V.Words.WORDS c.self.inside.count c.args.at c.self.inside.block c.take.new.block c.args.self.now c.self.invariant c.self.view_is
    c.requires c.from-count.ensures c.take.ensures).1
