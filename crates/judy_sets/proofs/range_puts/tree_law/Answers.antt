use Rattle.judy_sets.proofs.FromFacts.{are_words}
use Rattle.judy_sets.proofs.range_puts.tree_law.Goals as goal

pub returns : goal.returns
returns g c = are_words g.V.Words.WORDS c.args.root.now.pairs c.law.ensures.map
