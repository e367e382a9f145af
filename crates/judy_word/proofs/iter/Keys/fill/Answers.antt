use Rattle.std.proofs.Common.{ℕ, List, ◌++◌, take, drop, min, length, sym, ap, ◌∙◌}
use Rattle.judy_leaf.specs.KeyLists.{keys_of}
use Rattle.judy_leaf.proofs.LeafLists.{length-keys_of}
use Rattle.judy_query.proofs.Links.{keys_are}
use Rattle.judy_word.proofs.IterFacts.{keys_of-drop}
use Rattle.judy_word.proofs.iter.Keys.fill.Goals as goal

pub returns-clause-count : goal.returns-clause-count
returns-clause-count c = c.fill.ensures.count ∙ ap (min (length c.args.out.now)) (sym (length-keys_of c.self.inside.entries) ∙ ap length c.self.view_is)

pub returns-clause-out : goal.returns-clause-out
returns-clause-out c = c.fill.ensures.out ∙ ap (λ (keys : List ℕ). take c.fill.result keys ++ drop c.fill.result c.args.out.now) (keys_are c.self.inside.entries ∙ c.self.view_is)

pub returns-clause-left : goal.returns-clause-left
returns-clause-left c = ap keys_of c.fill.ensures.left ∙ keys_of-drop c.fill.result c.self.inside.entries ∙ ap (drop c.fill.result) (keys_are c.self.inside.entries ∙ c.self.view_is)
