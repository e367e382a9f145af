use Rattle.std.proofs.Common.{◌^◌, ◌∙◌, ap}
use Rattle.judy_model.specs.Forms.{shape_in}
use Rattle.judy_model.specs.Shapes.{shape_of}
use Rattle.judy_word.proofs.IterFacts.{keys_in_order}
use Rattle.judy_word.proofs.tree_array.TreeArray.shape.Goals as goal

pub returns-clause-rule : goal.returns-clause-rule
returns-clause-rule g c = λ tight.
    c.shape.ensures ∙ ap (λ held. shape_in held.tree.form) c.self.view_is
    ∙ ap shape_in (c.law.ensures.node.shaped (c.law.ensures.bounded.tight tight))
    ∙ ap (shape_of g.V.Words.WORDS) (keys_in_order g.V.Words.WORDS (256 ^ 8) c.args.self.now.tree.pairs c.law.ensures.node.map)
