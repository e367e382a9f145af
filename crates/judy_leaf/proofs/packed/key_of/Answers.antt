use Rattle.std.proofs.Common.{◌∙◌}
use Rattle.judy_leaf.proofs.Placed.{key_at}
use Rattle.judy_leaf.proofs.packed.key_of.Goals as goal

pub returns : goal.returns
returns g c = c.key_in.ensures.key ∙ key_at g.row.W c.requires.width c.args.words.now c.args.at c.requires.inside
