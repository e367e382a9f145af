use Rattle.judy_block.proofs.Inserts.{parts_moved}
use Rattle.judy_block.proofs.block.insert_words.Goals as goal

pub returns : goal.returns
returns c = parts_moved c.args.words.now c.args.i c.args.j c.args.word c.args.other c.requires.first c.requires.second c.move_up.new.words c.move_up-2.new.words c.move_up.ensures c.move_up-2.ensures
