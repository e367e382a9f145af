use Rattle.std.proofs.Common.{◌^◌, ◌∷◌, [], ◌∙◌}
use Rattle.judy_leaf.specs.KeyLists.{low_pairs}
use Rattle.judy_node.proofs.Leaves.{map_list, map_free}
use Rattle.judy_node.proofs.BuiltFacts.{leaf_made, leaf_built}
use Rattle.judy_node.proofs.build.leaf_of_two.Goals as goal

pub of_two-requires-clause-list : goal.of_two-requires-clause-list
of_two-requires-clause-list g c =
    map_list g.V.Words.WORDS c.args.width (low_pairs (256 ^ c.args.width) (c.args.low ∷ c.args.high ∷ [])) c.requires.width.0 c.requires.width.1 c.requires.map

pub of_two-requires-clause-no_values : goal.of_two-requires-clause-no_values
of_two-requires-clause-no_values g c = map_free g.V.Words.WORDS 0 (256 ^ c.args.width) (256 ^ c.args.width) (c.args.low ∷ c.args.high ∷ []) c.requires.map

pub returns-clause-level : goal.returns-clause-level
returns-clause-level g c =
    let made = c.into_parts-count.ensures in
    leaf_made g.V.Words.WORDS c.args.width c.into_parts-count.result.0 c.into_parts-count.result.1 (c.args.low ∷ c.args.high ∷ []) made.parts (made.list ∙ c.in_ok-of_two.ensures) c.requires.more

pub returns-clause-built : goal.returns-clause-built
returns-clause-built g c =
    let made = c.into_parts-count.ensures in
    leaf_built g.V.Words.WORDS c.args.width c.into_parts-count.result.0 c.into_parts-count.result.1 (c.args.low ∷ c.args.high ∷ []) made.parts (made.list ∙ c.in_ok-of_two.ensures) c.requires.more
    c.requires.width.0 c.requires.width.1 c.requires.map
