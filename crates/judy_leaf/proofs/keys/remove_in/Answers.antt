use Rattle.std.proofs.Common.{◌∙◌}
use Rattle.judy_leaf.proofs.KeyEdits.{key_less}
use Rattle.judy_leaf.proofs.keys.remove_in.Goals as goal

pub drop_place-requires-clause-keys : goal.drop_place-requires-clause-keys
drop_place-requires-clause-keys g c =
    let less = key_less g.row.W c.requires.width c.args.start c.args.count c.args.at c.args.block.now c.pull_key.new.block c.requires.inside c.requires.keys c.pull_key.ensures in
    record { exact = c.pull_key.ensures.long ∙ c.requires.keys.exact; packed = less.0 }

pub returns-else-this-eq1 : goal.returns-else-this-eq1
returns-else-this-eq1 g c =
    let less = key_less g.row.W c.requires.width c.args.start c.args.count c.args.at c.args.block.now c.pull_key.new.block c.requires.inside c.requires.keys c.pull_key.ensures in
    let last = c.drop_place.ensures in
    let edit = c.pull_key.ensures in
    record {
      capacity = last.capacity ∙ edit.capacity;
      tag = last.tag ∙ edit.tag;
      front = last.front ∙ edit.front;
      keys = last.keys;
      changed = last.changed ∙ less.1;
    }
