use Rattle.judy_leaf.proofs.HalfSteps.{place_is, place_none}
use Rattle.judy_leaf.proofs.halves.place_of.Goals as goal

pub returns-then-words-at : goal.returns-then-words-at
returns-then-words-at c = place_is c.args.words.now c.args.key c.requires.ascending c.place_in_all-at.result c.place_in_all-at.ensures c.if-words-at.true

pub returns-else-words-at : goal.returns-else-words-at
returns-else-words-at c = place_none c.args.words.now c.args.key c.requires.ascending c.place_in_all-at.result c.place_in_all-at.ensures c.if-words-at.false
