use Rattle.std.proofs.Common.{refl}
use Rattle.judy_sets.proofs.WordPuts.{changed_put}
use Rattle.judy_sets.proofs.range_words.put_changed.Goals as goal

pub returns : goal.returns
returns c =
    changed_put c.args.turned c.args.set.now.map c.args.from c.args.to c.requires (c.len.ensures.zeros refl) 0 c.args.made.now c.put_below.new.made c.put_inside.new.made c.put_above.new.made
    c.in_ok-put_below.ensures c.in_ok-put_inside.ensures c.in_ok-put_above.ensures
