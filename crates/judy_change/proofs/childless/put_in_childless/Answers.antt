use Rattle.std.proofs.Common.{sym, ◌∙◌, subst}
use Rattle.judy_node.specs.Trees.{IsChild}
use Rattle.judy_node.specs.Kinds.{tree_of}
use Rattle.judy_node.proofs.SlotFacts.{written-child}
use Rattle.judy_change.proofs.childless.put_in_childless.Goals as goal

pub returns-in-Ok-false-clause-child : goal.returns-in-Ok-false-clause-child
returns-in-Ok-false-clause-child g c =
    let words = g.V.Words.WORDS in
    subst (IsChild words c.args.width) (sym c.overwrite.ensures.written)
    (written-child words c.args.width c.args.pair.key c.args.pair.value (tree_of words c.into_childless.new.kind)
    (c.requires.words (sym c.REPLACES.ensures ∙ c.if-REPLACES.true)) c.in-Ok-false.ensures.child)
