use Rattle.judy_leaf.proofs.KeyEdits.{key_put}
use Rattle.judy_leaf.proofs.keys.insert_in.Goals as goal

pub returns-else-this-eq1 : goal.returns-else-this-eq1
returns-else-this-eq1 g c =
    key_put g.row.W c.requires.width c.args.start c.args.count c.args.at c.args.key c.args.block.now c.make_place.new.block c.push_key.new.block c.requires.few
    c.requires.place c.make_place.ensures c.push_key.ensures
