use Rattle.std.proofs.Common.{List, ◌++◌, take, drop, sym, ap, ◌∙◌}
use Rattle.std.specs.List.{take-map}
use Rattle.judy_leaf.specs.Fills.{made_of}
use Rattle.judy_node.specs.Trees.{Pairs}
use Rattle.judy_word.proofs.tree_array.entries.TreeEntries.fill.Goals as goal

pub returns-clause-out : goal.returns-clause-out
returns-clause-out g c =
    let made = g.E.FromPair.made in
    let count = c.fill.result in
    let behind = drop count c.args.out.now in
    c.fill.ensures.given.out ∙ ap (λ (all : Pairs). made_of made (take count all) ++ behind) c.self.view_is
    ∙ ap (λ (part : List _). part ++ behind) (sym (take-map (λ entry. made entry.0 entry.1) count c.args.self.now))
