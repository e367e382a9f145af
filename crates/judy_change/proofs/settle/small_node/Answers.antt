use Rattle.judy_node.specs.Kinds.{tree_of}
use Rattle.judy_change.proofs.SettleFacts.{low_map, tight_of}
use Rattle.judy_change.proofs.settle.small_node.Goals as goal

pub immediate_of_sorted-requires-clause-map : goal.immediate_of_sorted-requires-clause-map
immediate_of_sorted-requires-clause-map g c = low_map g.V.Words.WORDS c.args.width c.args.pairs.now c.requires.map

pub returns-then-pairs-most_in_immediate : goal.returns-then-pairs-most_in_immediate
returns-then-pairs-most_in_immediate g c =
    tight_of g.V.Words.WORDS c.args.width c.args.pairs.now (tree_of g.V.Words.WORDS c.immediate_of_sorted.result) c.close.result c.immediate_of_sorted.ensures.built c.requires.map c.close.ensures

pub kind_of_sorted-requires-clause-map : goal.kind_of_sorted-requires-clause-map
kind_of_sorted-requires-clause-map g c = low_map g.V.Words.WORDS c.args.width c.args.pairs.now c.requires.map

pub returns-in-Ok : goal.returns-in-Ok
returns-in-Ok g c =
    tight_of g.V.Words.WORDS c.args.width c.args.pairs.now (tree_of g.V.Words.WORDS c.in-Ok.kind) c.close-in-Ok.result c.in-Ok.ensures.built c.requires.map c.close-in-Ok.ensures
