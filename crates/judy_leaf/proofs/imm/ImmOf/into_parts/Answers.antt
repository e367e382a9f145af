use Rattle.std.proofs.Common.{rules, sym, ◌∙◌}
use Rattle.judy_leaf.proofs.ImmLists.{parts_one}
use Rattle.judy_leaf.proofs.imm.ImmOf.into_parts.Goals as goal

pub returns-then-WORDS-eq1-clause-list : goal.returns-then-WORDS-eq1-clause-list
returns-then-WORDS-eq1-clause-list g c =
    parts_one g.V.Words.WORDS c.self.inside.width c.self.inside.count c.self.inside.keys c.self.inside.value c.self.invariant c.args.self c.self.view_is
    (sym c.WORDS.ensures ∙ c.if-WORDS-eq1.true) c.requires

pub returns-else-WORDS-eq1-clause-parts : goal.returns-else-WORDS-eq1-clause-parts
returns-else-WORDS-eq1-clause-parts g c = search rules

pub returns-else-WORDS-eq1-clause-list : goal.returns-else-WORDS-eq1-clause-list
returns-else-WORDS-eq1-clause-list g c = search rules
