use Rattle.std.proofs.Common.{rules, ◌^◌, sym, subst}
use Rattle.judy_change.specs.Removals.{Has33}
use Rattle.judy_word.proofs.IterFacts.{entries_are}
use Rattle.judy_word.proofs.word_array.judy1.Judy1.unset.Goals as goal

pub returns-clause-answer : goal.returns-clause-answer
returns-clause-answer c = search rules

pub returns-clause-loosened : goal.returns-clause-loosened
returns-clause-loosened c =
    rw (← c.self.view_is) (λ was is. subst (λ pairs. Has33 8 pairs c.args.i) (sym (entries_are 0 (256 ^ 8) c.self.inside.tree.tree.pairs c.law.ensures.node.map)) (c.remove.ensures.loosened was is))
