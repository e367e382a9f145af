use Rattle.judy_query.proofs.WalkFacts.{left_turns, taken_pairs, taken_turn}
use Rattle.judy_query.proofs.waiting.take.Goals as goal

pub returns-clause-turns : goal.returns-clause-turns
returns-clause-turns g c = left_turns g.V.Words.WORDS c.args.turns.now.items c.pop.new.self.items c.in_ok-pop.field-0 c.in_ok-pop.ensures.items c.requires.turns

pub returns-clause-pairs : goal.returns-clause-pairs
returns-clause-pairs g c = taken_pairs g.V.Words.WORDS c.args.turns.now.items c.pop.new.self.items c.in_ok-pop.field-0 c.in_ok-pop.ensures.items c.requires.turns

pub returns-clause-turn : goal.returns-clause-turn
returns-clause-turn g c = taken_turn g.V.Words.WORDS c.args.turns.now.items c.pop.new.self.items c.in_ok-pop.field-0 c.in_ok-pop.ensures.items c.requires.turns
