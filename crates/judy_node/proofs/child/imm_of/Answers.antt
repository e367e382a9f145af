use Rattle.std.proofs.Common.{◌∙◌}
use Rattle.judy_node.proofs.ViewFacts.{one_parts}
use Rattle.judy_node.proofs.child.imm_of.Goals as goal

pub of_parts-requires-else-WORDS-eq0 : goal.of_parts-requires-else-WORDS-eq0
of_parts-requires-else-WORDS-eq0 g c =
    (one_parts g.V.Words.WORDS c.args.width c.args.head c.args.word (λ none. c.if-WORDS-eq0.false (c.WORDS.ensures ∙ none)) c.requires.level c.requires.child).0

pub returns-else-WORDS-eq0 : goal.returns-else-WORDS-eq0
returns-else-WORDS-eq0 g c =
    c.of_parts-else-WORDS-eq0.ensures
    ∙ (one_parts g.V.Words.WORDS c.args.width c.args.head c.args.word (λ none. c.if-WORDS-eq0.false (c.WORDS.ensures ∙ none)) c.requires.level c.requires.child).1
