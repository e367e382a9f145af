use Rattle.std.proofs.Common.{◌<◌, refl, sym, subst, ◌∙◌}
use Rattle.judy_leaf.specs.Leaves.{leaf_list}
use Rattle.judy_leaf.proofs.LeafLists.{leaf_length}
use Rattle.judy_leaf.proofs.LeafChanges.{leaf_less}
use Rattle.judy_leaf.proofs.in_place.take_from_leaf.Goals as goal

pub take-requires-clause-inside : goal.take-requires-clause-inside
take-requires-clause-inside g c = subst (λ n. c.args.at < n) (leaf_length g.V.Words.WORDS c.args.count.now c.args.block.now c.requires.parts ∙ sym c.from-2.ensures) c.requires.inside

pub returns : goal.returns
returns g c =
    let words = g.V.Words.WORDS in
    let count = c.args.count.now in
    let block = c.args.block.now in
    let less = leaf_less words count c.args.at block c.take.new.block (leaf_list words count block) c.requires.parts refl c.requires.inside c.from-2.ensures c.take.ensures in
    record { parts = less.0; taken = less.1 }
