use Rattle.std.proofs.Common.{◌^◌, sym, subst}
use Rattle.judy_change.specs.Removals.{Has33}
use Rattle.judy_word.proofs.IterFacts.{entries_are}
use Rattle.judy_word.proofs.word_array.WordArray.delete.Goals as goal

pub returns-clause-loosened : goal.returns-clause-loosened
returns-clause-loosened g c =
    rw (← c.self.view_is) (λ was is.
    subst (λ pairs. Has33 8 pairs c.args.i) (sym (entries_are g.V.Words.WORDS (256 ^ 8) c.self.inside.tree.tree.pairs c.law.ensures.node.map)) (c.remove.ensures.loosened was is))
