use Rattle.judy_word.proofs.ArrayFacts.{put-seen}
use Rattle.judy_word.proofs.word_array.judyl.JudyL.put.Goals as goal

pub returns-clause-present : goal.returns-clause-present
returns-clause-present c = rw (← c.self.view_is) (put-seen c.self.inside.tree c.put.new.self c.law.ensures c.args.i c.args.value c.put.result c.put.ensures.answer c.put.ensures.present)
