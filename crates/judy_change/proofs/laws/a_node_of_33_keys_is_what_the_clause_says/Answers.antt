use Rattle.judy_change.proofs.WayFacts.{has-33_on_way}
use Rattle.judy_change.proofs.laws.a_node_of_33_keys_is_what_the_clause_says.Goals as goal

pub returns : goal.returns
returns g c = λ key. has-33_on_way g.V.Words.WORDS key c.args.tree.now.pairs c.args.tree.now.form c.law.ensures.map (c.law.ensures.shaped c.requires)
