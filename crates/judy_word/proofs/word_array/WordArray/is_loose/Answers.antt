use Rattle.std.proofs.Common.{◌^◌, ◌∙◌, sym, ap}
use Rattle.judy_model.specs.Shapes.{form_of}
use Rattle.judy_word.proofs.IterFacts.{keys_in_order}
use Rattle.judy_word.proofs.word_array.WordArray.is_loose.Goals as goal

pub returns-clause-rule : goal.returns-clause-rule
returns-clause-rule g c =
    rw (← c.self.view_is) (λ tight.
    c.law.ensures.node.shaped (c.law.ensures.bounded.tight (sym c.is_loose.ensures ∙ tight))
    ∙ ap (form_of g.V.Words.WORDS 8) (keys_in_order g.V.Words.WORDS (256 ^ 8) c.self.inside.tree.tree.pairs c.law.ensures.node.map))
