use Rattle.std.proofs.Common.{◌||◌, sym, ap, ◌∙◌}
use Rattle.judy_bits.specs.ByteSets.{has}
use Rattle.judy_leaf.specs.KeyLists.{keys_of}
use Rattle.judy_node.specs.Trees.{Pairs}
use Rattle.judy_word.specs.Held.{map_in}
use Rattle.judy_word.proofs.FillingFacts.{contains-all}
use Rattle.judy_word.proofs.filling.Filling.has.Goals as goal

pub returns-then-has : goal.returns-then-has
returns-then-has g c =
    let kept : Pairs = c.self.inside.kept.items in
    rw (← c.self.view_is)
    (c.if-has.true
    ∙ sym (contains-all (map_in c.self.inside.tree) kept c.args.key ∙ ap (λ b. b || has (keys_of kept) c.args.key) (sym c.has.ensures ∙ c.if-has.true)))

pub returns-else-has : goal.returns-else-has
returns-else-has g c =
    let kept : Pairs = c.self.inside.kept.items in
    rw (← c.self.view_is)
    (c.is_among.ensures ∙ ap (λ (pairs : Pairs). has (keys_of pairs) c.args.key) c.deref.ensures.value
    ∙ sym (contains-all (map_in c.self.inside.tree) kept c.args.key ∙ ap (λ b. b || has (keys_of kept) c.args.key) (sym c.has.ensures ∙ c.if-has.false)))
